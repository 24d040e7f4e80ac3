-- A client that read the value of a key.
use Rattle.std.proofs.Common.{◌≡◌, inl, inr, ℕ, Bool, List, Some, refl, ap, ◌∙◌}
use Rattle.hcc_rule.specs.declared.key.Key.{Key}
use Rattle.hcc_rule.specs.Words.{key_of}
use Rattle.hcc_table.specs.declared.optimistic.Got.{Got}
use Rattle.hcc_table.specs.declared.optimistic.Got.TheVariants.{Hit, Miss, Short}
use Rattle.hcc_table.specs.Optimistic.{ReadsShown}
use Rattle.hcc_table.specs.Searched.{IsMissed, Sought}
use Rattle.hcc_shard.specs.declared.seat.ShardSeat.{ShardSeat}
use Rattle.hcc_shard.specs.declared.shard.Shard.{Shard}
use Rattle.hcc_shard.specs.Callers.{view_of}
use Rattle.hcc_shard.specs.Gets.{Gets, ReadsOut}
use Rattle.hcc_cache.specs.declared.cache.Cache.{Cache}
use Rattle.hcc_cache.specs.declared.client.Client.{Client}
use Rattle.hcc_cache.specs.declared.seeded.Seeded.{Seeded}
use Rattle.hcc_cache.specs.Calls.{Works, shard_in}
use Rattle.hcc_cache.specs.Gets.{GetsFor, ReadsOne, SeeksAt}
use Rattle.hcc_cache.specs.Keys.{fits_seeded, key_from, tag_at}
use Rattle.hcc_cache.specs.Sharding.{key_to}
use Rattle.hcc_cache.proofs.Clients.AtOneShard.{ChangesAt, IsAt, seated_at, works_at}
use Rattle.hcc_cache.proofs.Searches.MissedOrErasedKeys.{all_held_dead}

module _ {T : Type 0} (cache : Cache T) (old new : Client T) (i : ℕ) (shard : Shard (Seeded T) _)
    (was is : ShardSeat (Seeded T)) (at : IsAt cache old i shard was)
    (change : ChangesAt old new i is) (fits : T → Key → List ℕ → Type 0) (key : Key)
    (there : i ≡ shard_in cache key)
    (undone : key_from cache.seed (key_to cache.seed key) ≡ key) (useful : Bool)
    (before after : List ℕ) where
  works : Works (shard_in cache key) old new (view_of was) (view_of is)
  works = rw (← there) (works_at cache old new i shard was is at change)

  -- it searched there
  pub seeks_at : Sought (view_of was) (view_of is) → SeeksAt (shard_in cache key) old new
  seeks_at sought = record {
    works = record {
      before = refl;
      after = refl;
      others = works.others;
      self = works.self;
    };
    sought = rw (works.before, works.after) sought;
  }

  -- What a reading in the shard found is an entry of the caller's key: by loads alone,
  reads_once : (got : Got)
      → ReadsShown (fits_seeded fits) shard.table (key_to cache.seed key) useful shard.marks got
      before after was.seat is.seat
      → ReadsOne cache fits key got before after old
  reads_once got r =
      let alike = at.knows.alike.plans i shard at.shard_is in
      let there = r.there in
      let asked : key_from cache.seed (key_of there.entry) ≡ key =
      ap (key_from cache.seed) there.asked ∙ undone in
      let fitting : fits_seeded fits (tag_at cache i) (key_of there.entry) there.entry.value =
      rw alike.3 at there.right.right in
      let right : fits cache.tag (key_from cache.seed (key_of there.entry)) there.entry.value =
      fitting.right in
      record {
        entry = there.entry;
        asked = asked;
        right = rw asked at right;
        alive = rw works.before there.alive;
        copies = there.copies;
      }

  -- and by a reference.
  reads_held : (got : Got)
      → ReadsOut (fits_seeded fits) shard (key_to cache.seed key) useful got before after was is
      → ReadsOne cache fits key got before after old
  reads_held got r =
      let alike = at.knows.alike.plans i shard at.shard_is in
      let tag : (view_of was).tag ≡ Some (tag_at cache i) =
      (seated_at cache old old i shard was was at).rests.at.tagged ∙ ap Some alike.3 in
      let fitting : fits_seeded fits (tag_at cache i) (key_to cache.seed key) r.found.entry.value =
      rw tag at r.finds.right in
      let right : fits cache.tag (key_from cache.seed (key_to cache.seed key))
      r.found.entry.value = fitting.right in
      record {
        entry = r.found.entry;
        asked = ap (key_from cache.seed) r.finds.asked ∙ undone;
        right = rw undone at right;
        alive = rw works.before r.finds.alive;
        copies = r.copies;
      }

  -- After a miss each entry of the key that the client holds is dead to it.
  missed : after ≡ before → IsMissed (key_to cache.seed key) (view_of was) (view_of is)
      → GetsFor cache fits key Miss before after old new
  missed same m =
      (same, all_held_dead cache old new key (view_of was) (view_of is) at.knows works m.dead)

  -- So it is by its answer.
  pub gets_for : (got : Got)
      → Gets (fits_seeded fits) shard (key_to cache.seed key) useful got before after was is
      → GetsFor cache fits key got before after old new
  gets_for Miss g = elim g [
    | inl once ↦ missed once.reads.0 once.reads.1
    | inr held ↦ missed held.same held.missed
  ]
  gets_for (Hit count) g = elim g [
    | inl once ↦ reads_once (Hit count) once.reads
    | inr held ↦ reads_held (Hit count) held
  ]
  gets_for (Short count) g = elim g [
    | inl once ↦ reads_once (Short count) once.reads
    | inr held ↦ reads_held (Short count) held
  ]
