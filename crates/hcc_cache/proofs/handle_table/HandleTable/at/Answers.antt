use Rattle.hcc_cache.proofs.Handles.HandleTables.{found_at, held_at}
use Rattle.hcc_cache.proofs.handle_table.HandleTable.at.Goals as goal

pub returns : goal.returns
returns c =
    let places = c.self.inside.places.items in
    let some = rw (← c.self.view_is) at c.requires in
    rw (← c.self.view_is) (found_at places _ _ (held_at places _ _ c.index.ensures some))
