-- The texts that are put are the compact texts of the values.
use Rattle.std.proofs.Common.{◌≡◌, ◌++◌, ◌∷◌, [], ℕ, List, Some, None, codes, decimal, append_assoc, ap, ap₂, ◌∙◌, sym}
use Rattle.json.specs.Print.{escape_byte, escape, quoted}
use Rattle.serde_json.specs.Written.{compact_text}
use Rattle.bh_base.specs.declared.event.Counts.{Counts}
use Rattle.bh_base.specs.declared.reply.Cause.{Cause}
use Rattle.bh_base.specs.declared.reply.FallbackFault.{FallbackFault}
use Rattle.bh_base.specs.declared.reply.Metrics.{Metrics}
use Rattle.bh_replies.specs.ReplyLine.{cause_word, fallback_word, circuit_word, assigned_data, error_answer_data, fallback_value_data, events_data, metrics_data, totals_data, value_data}
use Rattle.bh_replies.specs.FaultLine.{error_data}
use Rattle.bh_replies.specs.ToldLine.{registered_data}

pub error-text : (why : List ℕ) → (codes "{\"error\":\"" ++ escape why) ++ codes "\"}" ≡ compact_text (error_data why)
unfolding escape_byte
error-text why = simp append_assoc

pub own_run-text : (ticket : ℕ) (arg : List ℕ)
    → (codes "{\"arg\":\"" ++ escape arg) ++ ((codes "\",\"reply\":\"assigned\",\"ticket\":" ++ decimal ticket) ++ codes "}") ≡ compact_text (assigned_data ticket None arg)
unfolding escape_byte
own_run-text ticket arg = simp append_assoc

pub run-text : (ticket : ℕ) (name arg : List ℕ)
    → (codes "{\"arg\":\"" ++ escape arg) ++ ((codes "\",\"command\":\"" ++ escape name) ++ ((codes "\",\"reply\":\"assigned\",\"ticket\":" ++ decimal ticket) ++ codes "}"))
    ≡ compact_text (assigned_data ticket (Some name) arg)
unfolding escape_byte
run-text ticket name arg = simp append_assoc

pub value-text : (body : List ℕ) → (codes "{\"body\":\"" ++ escape body) ++ codes "\",\"reply\":\"value\"}" ≡ compact_text (value_data body)
unfolding escape_byte
value-text body = simp append_assoc

pub fallback_value-text : (cause : Cause) (body back : List ℕ) → back ≡ codes "\",\"cause\":" ++ (quoted (cause_word cause) ++ codes ",\"reply\":\"fallback-value\"}")
    → (codes "{\"body\":\"" ++ escape body) ++ back ≡ compact_text (fallback_value_data cause body)
unfolding escape_byte
fallback_value-text cause body back is =
    append_assoc (codes "{\"body\":\"") (escape body) back ∙ ap (λ bs. codes "{\"body\":\"" ++ (escape body ++ bs)) is
    ∙ ap (λ bs. codes "{\"body\":\"" ++ bs) (sym (append_assoc (escape body) (34 ∷ []) (codes ",\"cause\":" ++ (quoted (cause_word cause) ++ codes ",\"reply\":\"fallback-value\"}"))))

pub no_value-text : (cause : Cause) (fallback : FallbackFault) (front back : List ℕ)
    → front ≡ codes "{\"cause\":" ++ (quoted (cause_word cause) ++ codes ",\"fallback\":") → back ≡ quoted (fallback_word fallback) ++ codes ",\"reply\":\"error\"}"
    → front ++ back ≡ compact_text (error_answer_data cause fallback)
unfolding escape_byte
no_value-text cause fallback front back one other =
    ap₂ (λ f b. f ++ b) one other
    ∙ ap (λ bs. codes "{\"cause\":" ++ bs) (append_assoc (quoted (cause_word cause)) (codes ",\"fallback\":") (quoted (fallback_word fallback) ++ codes ",\"reply\":\"error\"}"))

pub registered-text : (name : List ℕ) → (codes "{\"group\":\"" ++ escape name) ++ codes "\",\"reply\":\"registered\"}" ≡ compact_text (registered_data name)
unfolding escape_byte
registered-text name = simp append_assoc

pub metrics-text : (m : Metrics) (front : List ℕ) → front ≡ codes ",\"circuit\":" ++ (quoted (circuit_word m.circuit) ++ codes ",\"errors\":")
    → (codes "{\"busy\":" ++ decimal m.busy) ++ ((front ++ decimal m.errors) ++ (codes ",\"events\":" ++ (compact_text (events_data m.counts)
    ++ ((codes ",\"free\":" ++ decimal m.free) ++ ((codes ",\"percent\":" ++ decimal m.percent) ++ ((codes ",\"queued\":" ++ decimal m.queued)
    ++ ((codes ",\"reply\":\"metrics\",\"total\":" ++ decimal m.total) ++ codes "}"))))))) ≡ compact_text (metrics_data m)
unfolding escape_byte
metrics-text m front is = rw is (simp append_assoc)

pub totals-text : (counts : Counts) → codes "{\"events\":" ++ (compact_text (events_data counts) ++ codes ",\"reply\":\"totals\"}") ≡ compact_text (totals_data counts)
unfolding escape_byte
totals-text counts = simp append_assoc
