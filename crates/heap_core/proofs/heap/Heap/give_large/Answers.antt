-- The block's region goes, and its dataspace.
use Rattle.std.proofs.Common.{refl, ap, ◌∙◌, is_some}
use Rattle.std.specs.FinMap.{get}
use Rattle.region_map.specs.Regions.{heap_detached}
use Rattle.heap_core.proofs.GoneLargeLemmas.{gone_region, gone_exists, gone_sound, gone_keeps, gone_left, gives_large, item_is}
use Rattle.heap_core.proofs.heap.Heap.give_large.Goals as goal

pub detach_heap-requires : goal.detach_heap-requires
detach_heap-requires c =
    ap (λ s. is_some (get c.args.map.now.heap s)) (item_is _ _ _ _ _ c.requires.there c.swap_remove-start.ensures.value refl) ∙ gone_region _ _ _ _ c.args.memory.now _ c.requires.sound c.requires.block

pub free-requires : goal.free-requires
free-requires c = gone_exists _ _ _ _ c.args.memory.now _ c.requires.sound c.requires.block

pub returns-clause-given : goal.returns-clause-given
returns-clause-given c =
    rw (c.detach_heap.ensures ∙ ap (heap_detached c.args.map.now) (item_is _ _ _ _ _ c.requires.there c.swap_remove-start.ensures.value refl))
    (gives_large c.args.self.now _ _ _ _ _ c.requires.sound c.requires.block _ _ _ c.requires.there refl c.swap_remove-start.ensures.items c.free.ensures.part)

pub returns-clause-keeps : goal.returns-clause-keeps
returns-clause-keeps c =
    rw (c.detach_heap.ensures ∙ ap (heap_detached c.args.map.now) (item_is _ _ _ _ _ c.requires.there c.swap_remove-start.ensures.value refl))
    (record {
      sound = gone_sound c.args.self.now _ _ _ _ _ c.requires.sound c.requires.block _ _ _ c.requires.there refl c.swap_remove-start.ensures.items c.free.ensures.part c.swap_remove-start.ensures.len;
      others = gone_keeps c.args.self.now _ _ _ _ _ c.requires.sound c.requires.block _ _ _ c.requires.there refl c.swap_remove-start.ensures.items c.free.ensures.part;
      payer = refl;
    })

pub returns-clause-loses : goal.returns-clause-loses
returns-clause-loses c =
    rw (c.detach_heap.ensures ∙ ap (heap_detached c.args.map.now) (item_is _ _ _ _ _ c.requires.there c.swap_remove-start.ensures.value refl))
    (record {
      count = c.swap_remove-start.ensures.len;
      chunks = refl;
      fit = refl;
      left = gone_left c.args.self.now _ _ _ _ _ c.requires.sound c.requires.block _ _ _ c.requires.there refl c.swap_remove-start.ensures.items c.free.ensures.part;
    })
