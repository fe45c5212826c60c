-- The five words of the name's bytes.
use Rattle.std.proofs.Common.{◌≡◌, ◌∷◌, [], ◌++◌, ◌-◌, ◌*◌, length, ap, ◌∙◌, append_assoc}
use Rattle.std.specs.Prelude.{slice_index}
use Rattle.trade_base.specs.Word.{word_bytes}
use Rattle.own_model.specs.OwnState.{zeros}
use Rattle.session_nodes.specs.Node.{name_bytes, rank_of, word_from}
use Rattle.session_nodes.proofs.RankLemmas.{rank_five}
use Rattle.session_nodes.proofs.node.NameKey.of.Goals as goal

pub returns : goal.returns
unfolding rank_of
returns c =
    let name = c.args.name.now in
    let rest = zeros (32 - length name) in
    let all : c.append_zeros.new.bytes.items ≡ name_bytes name =
    c.append_zeros.ensures.items
    ∙ ap (λ l. l ++ rest) (c.append.ensures.items ∙ ap (λ l. l ++ name) (c.append_word.ensures.items ∙ ap (λ l. l ++ word_bytes (length name)) c.new-bytes.ensures))
    ∙ append_assoc (word_bytes (length name)) name rest in
    rank_five (slice_index (c.word_in.result ∷ c.word_in-2.result ∷ c.word_in-3.result ∷ c.word_in-4.result ∷ c.word_in-5.result ∷ [])) (λ i. word_from (name_bytes name) (8 * i))
    (c.word_in.ensures ∙ ap (λ l. word_from l 0) (c.deref.ensures.0 ∙ all))
    (c.word_in-2.ensures ∙ ap (λ l. word_from l 8) (c.deref-2.ensures.0 ∙ all))
    (c.word_in-3.ensures ∙ ap (λ l. word_from l 16) (c.deref-3.ensures.0 ∙ all))
    (c.word_in-4.ensures ∙ ap (λ l. word_from l 24) (c.deref-4.ensures.0 ∙ all))
    (c.word_in-5.ensures ∙ ap (λ l. word_from l 32) (c.deref-5.ensures.0 ∙ all))
