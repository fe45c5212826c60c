-- The text is the key, the value and what stands behind it.
use Rattle.std.proofs.Common.{◌≡◌, ◌++◌, ◌∷◌, ap, sym, subst, ◌∙◌, codes}
use Rattle.std.specs.Option.{option_copied}
use Rattle.own_model.specs.SessionArgs.Value.{Bare, Quoted}
use Rattle.session_proto.specs.Pairs.{BeginsWith}
use Rattle.session_proto.specs.Pieces.{after_comma}
use Rattle.session_proto.proofs.PlainLemmas.{behind_front, ram_first, caps_first, label_first}
use Rattle.session_proto.proofs.plain.read_unspaced.Goals as goal

pub returns-in-Some-clause-first : goal.returns-in-Some-clause-first
returns-in-Some-clause-first c =
    let value = c.in-Some-split_bare.value.now in
    let rest = option_copied c.in-Some-split_bare.rest in
    let front = behind_front c.args.text.now (codes "ram_quota=") c.in-Some.value.now 10 c.in-Some.ensures.cases.0 c.in-Some.ensures.cases.1 in
    let whole : c.args.text.now ≡ codes "ram_quota=" ++ (value ++ after_comma rest) = front ∙ ap (λ t. codes "ram_quota=" ++ t) c.in-Some-split_bare.ensures.parts in
    subst (λ t. BeginsWith t (record { key = codes "ram_quota"; value = Bare value }) rest) (sym whole) (ram_first value rest c.in-Some-split_bare.ensures.bare)

pub returns-in-Some-strip_prefix-clause-first : goal.returns-in-Some-strip_prefix-clause-first
returns-in-Some-strip_prefix-clause-first c =
    let value = c.in-Some-split_bare-2.value.now in
    let rest = option_copied c.in-Some-split_bare-2.rest in
    let front = behind_front c.args.text.now (codes "cap_quota=") c.in-Some-strip_prefix.value.now 10 c.in-Some-strip_prefix.ensures.cases.0 c.in-Some-strip_prefix.ensures.cases.1 in
    let whole : c.args.text.now ≡ codes "cap_quota=" ++ (value ++ after_comma rest) = front ∙ ap (λ t. codes "cap_quota=" ++ t) c.in-Some-split_bare-2.ensures.parts in
    subst (λ t. BeginsWith t (record { key = codes "cap_quota"; value = Bare value }) rest) (sym whole) (caps_first value rest c.in-Some-split_bare-2.ensures.bare)

pub returns-clause-first : goal.returns-clause-first
returns-clause-first c =
    let value = c.in-Some-split_quoted.value.now in
    let rest = option_copied c.in-Some-split_quoted.rest in
    let front = behind_front c.args.text.now (codes "label=\"") c.in-Some-strip_prefix-2.value.now 7 c.in-Some-strip_prefix-2.ensures.cases.0 c.in-Some-strip_prefix-2.ensures.cases.1 in
    let whole : c.args.text.now ≡ codes "label=\"" ++ (value ++ 34 ∷ after_comma rest) = front ∙ ap (λ t. codes "label=\"" ++ t) c.in-Some-split_quoted.ensures.parts in
    subst (λ t. BeginsWith t (record { key = codes "label"; value = Quoted value }) rest) (sym whole) (label_first value rest c.in-Some-split_quoted.ensures.quotable)
