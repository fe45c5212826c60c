-- A name and a slash are passed in each turn, and what is left behind three has to be a name.
use Rattle.std.proofs.Common.{◌+◌, ◌-◌, List, ℕ, drop, ap, sym, ◌∙◌, arith}
use Rattle.std.proofs.lemmas.List.{take_rest}
use Rattle.text_codec.proofs.PathLemmas.{is_rest, whole_path, name_passed, no_name, last_name, fourth_name}
use Rattle.text_codec.proofs.words.is_path.Goals as goal

pub loop-count-init : goal.loop-count-init
loop-count-init c = whole_path c.args.word.now

pub returns-then-not-is_name : goal.returns-then-not-is_name
returns-then-not-is_name c =
    sym (no_name (c.loop-count.count - 1) c.in-Some.end c.loop-count.left.now (sym c.find_byte.ensures.place ∙ c.in-Some.is) (sym c.is_name.ensures ∙ c.if-not-is_name.true))
    ∙ c.loop-count.invariant

pub loop-count-preserved : goal.loop-count-preserved
loop-count-preserved c =
    let left : List ℕ = c.loop-count.left.now in
    let end = c.in-Some.end in
    let count = c.loop-count.count in
    let least = c.loop-count.auto.count in
    ap (is_rest (count + 1 - 1)) (take_rest left (end + 1))
    ∙ ap (λ k. is_rest k (drop (end + 1) left)) {x = count + 1 - 1} {y = count - 1 + 1} (omega (arith, least))
    ∙ sym (name_passed (count - 1) end left (sym c.find_byte.ensures.place ∙ c.in-Some.is) (sym c.is_name.ensures ∙ c.if-not-is_name.false))
    ∙ c.loop-count.invariant

pub returns-in-None : goal.returns-in-None
returns-in-None c =
    c.is_name-in-None.ensures
    ∙ sym (last_name (c.loop-count.count - 1) c.loop-count.left.now (omega (arith, c.loop-count-test.true)) (sym c.find_byte.ensures.place ∙ c.in-None.is))
    ∙ c.loop-count.invariant

pub returns : goal.returns
returns c =
    let most = c.loop-count.auto.count-end in
    let done = c.loop-count-test.false in
    c.is_name-2.ensures
    ∙ sym (fourth_name c.loop-count.left.now)
    ∙ ap (λ k. is_rest k c.loop-count.left.now) {x = 3} {y = c.loop-count.count - 1} (omega (arith, most, done))
    ∙ c.loop-count.invariant
