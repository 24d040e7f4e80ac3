-- What holds of a client of a cache of objects after each call.
use Rattle.std.proofs.Common.{◌≡◌, inl, inr, ℕ, zero, suc, ◌+◌, ◌-◌, ◌<◌, ◌≤◌, List, Some, None, length, refl, ap, ◌∙◌, arith}
use Rattle.std.proofs.lemmas.List.{length-append, length-take-le}
use Rattle.slab.specs.Slab.{get, Updates}
use Rattle.hcc_table.specs.declared.lists.Freed.{Freed}
use Rattle.hcc_table.specs.Lists.{Puts}
use Rattle.hcc_cache.specs.declared.holding.Alone.{Alone}
use Rattle.hcc_cache.specs.declared.holding.Value.{Value}
use Rattle.hcc_cache.specs.declared.inserting.Inserted.{Inserted}
use Rattle.hcc_cache.specs.declared.inserting.Inserted.TheVariants.{Placed, Dropped, Standalone}
use Rattle.hcc_cache.specs.declared.object_cache.ObjectCache.{ObjectCache}
use Rattle.hcc_cache.specs.declared.object_cache.ObjectClient.{ObjectClient}
use Rattle.hcc_cache.specs.Alones.{AreAlone, IsObject, LeavesAlone, MoreAlone, StoodAt}
use Rattle.hcc_cache.specs.Known.{Knows}
use Rattle.hcc_cache.specs.Objects.{KnowsObjects, alone_of, gone_of, places_left, shelf_of}
use Rattle.hcc_cache.proofs.HandedBack.AloneAfterwards.{alone_fewer}
use Rattle.hcc_cache.proofs.Insertions.HandleOnInserted.{alone_within}

-- how many are on a list
pub gone_length : (client : ObjectClient) → length (gone_of client) ≡ client.gone.count
gone_length client = length-take-le client.gone.count client.gone.places.items client.gone.within

module _ (cache : ObjectCache) (old new : ObjectClient) (knows : KnowsObjects cache old)
    (known : Knows cache.cache new.client) where
  stood : (p : ℕ) (value : Value) → StoodAt p value old.client → IsObject value
  stood p value there =
      let object = knows.objects p there.0 there.1 in
      (object.0, there.2 ∙ object.1)

  -- The list is as it was.
  pub keeps_list : AreAlone old.client new.client → new.gone ≡ old.gone → KnowsObjects cache new
  keeps_list alone same =
      let most = ap (λ (l : _). l.most) same in
      let places = ap (λ (l : _). length l.places.items) same in
      let count = ap (λ (l : _). l.count) same in
      let was_places = knows.places in
      let was_room = knows.room in
      let handles = alone.most in
      let entries = alone.count in
      record {
        known = known;
        sized = knows.sized;
        places = omega arith;
        room = omega arith;
        objects = λ p a there. stood p a.value (alone.each p a there);
      }

  module _ (these : List Freed) (puts : Puts these (shelf_of old) (shelf_of new)) where
    -- Some were put on it, and no standalone entry came, or one for which there was a place.
    room_for : (more : ℕ) → new.client.most ≡ old.client.most
        → alone_of new ≡ alone_of old + more → more + alone_of old ≤ places_left old
        → (new.client.most + new.gone.most ≤ length new.gone.places.items)
        × (alone_of new ≤ places_left new)
    room_for more handles entries free =
        let was = gone_length old in
        let is = gone_length new in
        let long = ap length puts.0 ∙ length-append (gone_of old) these in
        let few = puts.1 in
        let most = puts.2 in
        let places = puts.3 in
        let was_places = knows.places in
        let fewer = alone_within cache.cache new.client known in
        let held = known.few in
        let inside = old.gone.within in
        (omega arith, by (length these) refl)
      where
        by : (n : ℕ) → length these ≡ n → alone_of new ≤ places_left new
        by zero none =
            let was = gone_length old in
            let is = gone_length new in
            let long = ap length puts.0 ∙ length-append (gone_of old) these in
            let places = puts.3 in
            omega arith
        by (suc n) some =
            let was = gone_length old in
            let is = gone_length new in
            let long = ap length puts.0 ∙ length-append (gone_of old) these in
            let few = puts.1 in
            let places = puts.3 in
            let was_places = knows.places in
            let fewer = alone_within cache.cache new.client known in
            let held = known.few in
            omega arith

    pub grows_list : AreAlone old.client new.client → KnowsObjects cache new
    grows_list alone =
        let room = room_for 0 alone.most (alone.count ∙ omega arith)
        (let free = knows.room in omega arith) in
        record {
          known = known;
          sized = knows.sized;
          places = omega (arith, room.0);
          room = room.1;
          objects = λ p a there. stood p a.value (alone.each p a there);
        }

    pub grows_by_one : (Is : Value → Type 0) → ((value : Value) → Is value → IsObject value)
        → MoreAlone Is old.client new.client → alone_of old < places_left old
        → KnowsObjects cache new
    grows_by_one Is object alone free =
        let room = room_for 1 alone.most alone.count (omega (arith, free)) in
        record {
          known = known;
          sized = knows.sized;
          places = omega (arith, room.0);
          room = room.1;
          objects = λ p a there. elim (alone.each p a there) [
            | inl was ↦ stood p a.value was
            | inr made ↦ object a.value made
          ];
        }

    -- by the answer of an insertion
    pub grows_by : (Is : Value → Type 0) (made : Inserted)
        → ((value : Value) → Is value → IsObject value)
        → LeavesAlone Is made old.client new.client → alone_of old < places_left old
        → KnowsObjects cache new
    grows_by Is Placed object alone free = grows_list alone
    grows_by Is Dropped object alone free = grows_list alone
    grows_by Is Standalone object alone free = grows_by_one Is object alone free

  -- A standalone entry went onto it.
  pub moves_one : (at : ℕ) (a : Alone) → get old.client.alone at ≡ Some a
      → Updates old.client.alone new.client.alone at None
      → new.client.most ≡ old.client.most → new.gone.most ≡ old.gone.most
      → new.gone.count ≡ old.gone.count + 1
      → length new.gone.places.items - new.gone.count + 1
      ≡ length old.gone.places.items - old.gone.count
      → KnowsObjects cache new
  moves_one at a there updates handles most count places =
      let fewer = alone_fewer old.client new.client handles at a there updates in
      let entries = fewer.0 in
      let inside = new.gone.within in
      let were = old.gone.within in
      let room = knows.room in
      let all = knows.places in
      record {
        known = known;
        sized = knows.sized;
        places = omega arith;
        room = omega arith;
        objects = λ p b now. knows.objects p b (fewer.1 p b now);
      }
