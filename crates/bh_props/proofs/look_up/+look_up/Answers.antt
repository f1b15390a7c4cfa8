use Rattle.std.proofs.Common.{rules, ◌<◌, ◌∙◌, sym, ap, option_map, length, lit<}
use Rattle.bh_props.proofs.Dotted.{look_up-found, look_up-missing, look_up-last, length-after_dot}
use Rattle.bh_props.proofs.look_up.+look_up.Goals as goal

pub returns-in_err-get-in-Some : goal.returns-in_err-get-in-Some
returns-in_err-get-in-Some t c =
    let (is_key, is_rest, within) = c.in-Some.ensures.byte (lit< tt) (λ w o h. h) in
    ap (option_map _) c.from_residual.ensures ∙ sym (look_up-missing _ _ _ _ within is_key is_rest (sym c.in_err-get-in-Some.ensures))

pub look_up-requires : goal.look_up-requires
look_up-requires t c =
    let (is_key, is_rest, within) = c.in-Some.ensures.byte (lit< tt) (λ w o h. h) in
    let falls : length c.in-Some.rest.now < length c.args.name.now = length-after_dot _ _ within is_rest in
    search (rules, falls)

pub returns-in_ok-get-in-Some : goal.returns-in_ok-get-in-Some
returns-in_ok-get-in-Some t c =
    let (is_key, is_rest, within) = c.in-Some.ensures.byte (lit< tt) (λ w o h. h) in
    c.look_up.ensures ∙ sym (look_up-found _ _ _ _ _ within is_key is_rest (sym c.in_ok-get-in-Some.ensures))

pub returns-in-None : goal.returns-in-None
returns-in-None t c = c.get-in-None.ensures ∙ sym (look_up-last _ _ (c.in-None.ensures.byte (lit< tt) (λ w o h. h)))
