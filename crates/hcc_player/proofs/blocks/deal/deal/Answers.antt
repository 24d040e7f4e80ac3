use Rattle.std.proofs.Common.{◌++◌, [], ◌∷◌, map, slice_set, sym, ap, ◌∙◌}
use Rattle.std.proofs.lemmas.List.{map-set, get_or-map}
use Rattle.hcc_player.proofs.blocks.deal.deal.Goals as goal

pub returns : goal.returns
returns c =
    let lists = c.args.lists.now in
    let read = c.args.read in
    let was = c.index-lists-read.result in
    let there = get_or-map (λ list. list.items) lists read.client was [] c.requires in
    map-set (λ list. list.items) lists read.client c.push.new.self
    ∙ ap (slice_set (map (λ list. list.items) lists) read.client)
    (c.in_ok-push.ensures.items ∙ ap (λ items. items ++ read ∷ []) (sym there))
