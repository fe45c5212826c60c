-- The counter of the number is one less, and so is that of all.
use Rattle.std.proofs.Common.{◌<◌, ◌-◌, ◌∷◌, ◌++◌, ◌∙◌, length, get_or, arith, length-append}
use Rattle.std.proofs.Math.ListN.{length-set}
use Rattle.object_service.proofs.CountLemmas.{all_append, all_back, all_front, less_other, less_same, set_at}
use Rattle.object_service.proofs.counts.ObjectCounts.remove.Goals as goal

pub bounds-self-number : goal.bounds-self-number
bounds-self-number c = (all_back c.requires.before (c.args.number ∷ c.requires.behind) c.requires.counted.low).0

pub offset_bounds-self-number : goal.offset_bounds-self-number
offset_bounds-self-number c = let low : c.args.number < 16 = (all_back c.requires.before (c.args.number ∷ c.requires.behind) c.requires.counted.low).0 in omega (arith, low)

pub returns : goal.returns
returns c before behind is =
    let number = c.args.number in
    let each = c.args.self.now.each in
    let low : number < 16 = (all_back before (number ∷ behind) is.low).0 in
    let inside : number < length each = omega (arith, low, is.long) in
    let one = is.each number ∙ less_same number before behind in
    record {
      all = omega (arith, is.all, length-append before (number ∷ behind), length-append before behind);
      each = λ k. set_at each number k (get_or each number 0 - 1) (before ++ behind) inside (λ other. is.each k ∙ less_other k number before behind other) (omega (arith, one));
      long = length-set each number (get_or each number 0 - 1) ∙ is.long;
      low = all_append before behind (all_front before (number ∷ behind) is.low) (all_back before (number ∷ behind) is.low).1;
    }
