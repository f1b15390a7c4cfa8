use Rattle.std.proofs.Common.{◌≡◌, ◌∙◌, ◌||◌, Bool, Option, None, Some, ap, codes, is_some, option_map, refl}
use Rattle.clap.specs.Walk.{first_of}
use Rattle.clap.specs.Words.{found_of, rows_of}
use Rattle.clap.proofs.WalkLemmas.{first_value-rows}
use Rattle.bh_arguments.proofs.invocation.sharing_in.Goals as goal

-- whether there is something does not depend on how it is seen
is_some-map : {A B : Type 0} (f : A → B) (o : Option A) → is_some o ≡ is_some (option_map f o)
is_some-map f None = refl
is_some-map f (Some x) = refl

pub returns : goal.returns
returns c =
    let socket : c.is_some.result ≡ is_some (first_of (codes "socket") (rows_of (found_of c.args.found.now))) =
    c.is_some.ensures ∙ is_some-map (λ path. path.now) c.get_str.result ∙ ap is_some (c.get_str.ensures ∙ first_value-rows (found_of c.args.found.now) (codes "socket")) in
    record {
      tunable = c.flag_in.result;
      is_tunable = c.flag_in.ensures;
      tickets = c.u32_in.ensures;
      contexts = c.u32_in-2.ensures;
      may_tune = ap (λ (b : Bool). b || c.flag_in.result) socket;
    }
