-- A node is linked back to another one.
use Rattle.std.proofs.Common.{◌≡◌, ℕ, ◌^◌, ◌<◌, List, [], refl, sym, ap, arith}
use Rattle.std.proofs.lemmas.List.{append-nil}
use Rattle.std.specs.Int.{w64, to_le_bytes}
use Rattle.std.specs.Option.{unwrap_or}
use Rattle.trade_base.specs.Word.{word_bytes}
use Rattle.trade_base.proofs.WordLemmas.{length-word_bytes}
use Rattle.session_nodes.specs.Calls.{HasBytes, node_stored}
use Rattle.session_nodes.specs.SoundHeaps.{Stock}
use Rattle.session_nodes.specs.Index.{LinksBack}
use Rattle.session_nodes.specs.Node.{word_from}
use Rattle.session_nodes.proofs.TailLemmas.{tails_stored, tail_others, word_before, word_put}

pub linked_back : (block previous : ℕ) (old new : Stock) → previous < 2 ^ 64 → HasBytes old.nodes.payloads block 0 96 → new ≡ node_stored block 88 (word_bytes previous) old → LinksBack block previous old new
linked_back block previous old new low has stored =
    let size = length-word_bytes previous in
    record {
      tails = tails_stored old new block 88 (word_bytes previous) (omega arith) (omega (arith, size)) has stored;
      links = λ b i. record {
        left = word_before old new block 88 (word_bytes previous) (omega arith) (omega (arith, size)) has stored b 64 (omega arith) i;
        right = word_before old new block 88 (word_bytes previous) (omega arith) (omega (arith, size)) has stored b 72 (omega arith) i;
        high = word_before old new block 88 (word_bytes previous) (omega arith) (omega (arith, size)) has stored b 80 (omega arith) i;
      };
      linked = λ some. word_put old new block 88 (word_bytes previous) (omega arith) (omega (arith, size)) has stored [] [] previous 88 (sym (append-nil (word_bytes previous))) refl low;
      others = λ b other. ap (λ m. word_from (unwrap_or m []) 88) (tail_others old new block 88 (word_bytes previous) (omega arith) (omega (arith, size)) has stored b other);
    }

-- the eight bytes of a number are its word's
pub word_is : (n : ℕ) (bytes : List ℕ) → bytes ≡ to_le_bytes w64 n → bytes ≡ word_bytes n
unfolding word_bytes
word_is n bytes is = is
