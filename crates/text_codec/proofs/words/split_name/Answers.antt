use Rattle.std.proofs.Common.{sym, refl, arith, inl, inr}
use Rattle.std.proofs.lemmas.List.{take_rest}
use Rattle.std.proofs.lemmas.Bool.Decides.{nat_tests}
use Rattle.text_codec.proofs.NameLemmas.{none, whole, before_space, before_other}
use Rattle.text_codec.proofs.words.split_name.Goals as goal
use Rattle.text_codec.proofs.words.split_name.Goals.{then-end-lt1-via-then-end-lt1, then-end-lt1-via-else-end-lt1+then-end-gt-LONGEST_NAME}

pub returns-then-end-lt1-clause-name : goal.returns-then-end-lt1-clause-name
returns-then-end-lt1-clause-name c = sym (none c.name_len-end.result c.args.text.now c.name_len-end.ensures (elim c.then-end-lt1.either [ inl short ↦ inl short | inr more ↦ inr more.1 ]))

pub returns-in-None-clause-word : goal.returns-in-None-clause-word
returns-in-None-clause-word c = let all = whole c.name_len-end.result c.args.text.now c.name_len-end.ensures (omega (arith, c.if-end-lt1.false)) (omega (arith, c.if-end-gt-LONGEST_NAME.false)) (grind (arith, nat_tests, c.in-None.ensures.lookup)) in rw all.0 refl

pub returns-in-None-clause-rest : goal.returns-in-None-clause-rest
returns-in-None-clause-rest c = let all = whole c.name_len-end.result c.args.text.now c.name_len-end.ensures (omega (arith, c.if-end-lt1.false)) (omega (arith, c.if-end-gt-LONGEST_NAME.false)) (grind (arith, nat_tests, c.in-None.ensures.lookup)) in rw all.0 refl

pub returns-in-None-clause-name : goal.returns-in-None-clause-name
returns-in-None-clause-name c = let all = whole c.name_len-end.result c.args.text.now c.name_len-end.ensures (omega (arith, c.if-end-lt1.false)) (omega (arith, c.if-end-gt-LONGEST_NAME.false)) (grind (arith, nat_tests, c.in-None.ensures.lookup)) in sym all.1

pub returns-in-Some-eq32-clause-word : goal.returns-in-Some-eq32-clause-word
returns-in-Some-eq32-clause-word c = let front = before_space c.name_len-end.result c.args.text.now c.name_len-end.ensures (omega (arith, c.if-end-lt1.false)) (omega (arith, c.if-end-gt-LONGEST_NAME.false)) (grind (arith, nat_tests, c.in-Some-eq32.ensures.lookup)) (grind (arith, c.in-Some-eq32.ensures.lookup, c.in-Some-eq32.field-0-test)) in rw front.0 refl

pub returns-in-Some-eq32-clause-rest : goal.returns-in-Some-eq32-clause-rest
returns-in-Some-eq32-clause-rest c = let front = before_space c.name_len-end.result c.args.text.now c.name_len-end.ensures (omega (arith, c.if-end-lt1.false)) (omega (arith, c.if-end-gt-LONGEST_NAME.false)) (grind (arith, nat_tests, c.in-Some-eq32.ensures.lookup)) (grind (arith, c.in-Some-eq32.ensures.lookup, c.in-Some-eq32.field-0-test)) in rw front.0 (grind (arith, nat_tests, take_rest, c.in-Some-eq32.ensures.lookup))

pub returns-in-Some-eq32-clause-name : goal.returns-in-Some-eq32-clause-name
returns-in-Some-eq32-clause-name c = let front = before_space c.name_len-end.result c.args.text.now c.name_len-end.ensures (omega (arith, c.if-end-lt1.false)) (omega (arith, c.if-end-gt-LONGEST_NAME.false)) (grind (arith, nat_tests, c.in-Some-eq32.ensures.lookup)) (grind (arith, c.in-Some-eq32.ensures.lookup, c.in-Some-eq32.field-0-test)) in sym front.1

pub returns-in-Some-clause-name : goal.returns-in-Some-clause-name
returns-in-Some-clause-name c = sym (before_other c.name_len-end.result c.args.text.now c.name_len-end.ensures (grind (arith, nat_tests, c.in-Some.ensures.lookup)) (grind (arith, c.in-Some.ensures.lookup, c.in-Some.field-0-test)))
