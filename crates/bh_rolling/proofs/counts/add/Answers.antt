use Rattle.std.proofs.Common.{arith}
use Rattle.bh_base.specs.declared.event.EventKind.TheVariants as kind
use Rattle.bh_rolling.proofs.counts.add.Goals as goal

pub overflow_add-total : goal.overflow_add-total
overflow_add-total c = omega (arith, c.requires kind.BadRequest)

pub overflow_add-total-2 : goal.overflow_add-total-2
overflow_add-total-2 c = omega (arith, c.requires kind.ExceptionThrown)

pub overflow_add-total-3 : goal.overflow_add-total-3
overflow_add-total-3 c = omega (arith, c.requires kind.Failure)

pub overflow_add-total-4 : goal.overflow_add-total-4
overflow_add-total-4 c = omega (arith, c.requires kind.FallbackFailure)

pub overflow_add-total-5 : goal.overflow_add-total-5
overflow_add-total-5 c = omega (arith, c.requires kind.FallbackMissing)

pub overflow_add-total-6 : goal.overflow_add-total-6
overflow_add-total-6 c = omega (arith, c.requires kind.FallbackRejection)

pub overflow_add-total-7 : goal.overflow_add-total-7
overflow_add-total-7 c = omega (arith, c.requires kind.FallbackSuccess)

pub overflow_add-total-8 : goal.overflow_add-total-8
overflow_add-total-8 c = omega (arith, c.requires kind.ResponseFromCache)

pub overflow_add-total-9 : goal.overflow_add-total-9
overflow_add-total-9 c = omega (arith, c.requires kind.SemaphoreRejected)

pub overflow_add-total-10 : goal.overflow_add-total-10
overflow_add-total-10 c = omega (arith, c.requires kind.ShortCircuited)

pub overflow_add-total-11 : goal.overflow_add-total-11
overflow_add-total-11 c = omega (arith, c.requires kind.Success)

pub overflow_add-total-12 : goal.overflow_add-total-12
overflow_add-total-12 c = omega (arith, c.requires kind.ThreadPoolRejected)

pub overflow_add-total-13 : goal.overflow_add-total-13
overflow_add-total-13 c = omega (arith, c.requires kind.Timeout)
