-- Keys under a seed: the shards know the seeded key of each key of the caller's.
use Rattle.std.specs.Prelude.{◌≡◌, ℕ, List, length}
use Rattle.hcc_word.specs.Seeding.{unseeded_key}
use Rattle.hcc_rule.specs.declared.key.Key.{Key}
use Rattle.hcc_cache.specs.declared.cache.Cache.{Cache}
use Rattle.hcc_cache.specs.declared.seeded.Seeded.{Seeded}
use Rattle.hcc_cache.specs.Sharding.{key_of_words, key_to, shard_of}

-- the caller's key whose seeded key this is
abbrev pub key_from : (seed : ℕ) → Key → Key
key_from seed key = key_of_words (unseeded_key seed (key.w0, key.w1))

-- the tag of the shard of this number of a cache
abbrev pub tag_at : {T : Type 0} → Cache T → (s : ℕ) → Seeded T
tag_at cache s = record {
  tag = cache.tag;
  seed = cache.seed;
  shards = length cache.shards.items;
  number = s;
}

-- A value fits a seeded key in a shard just where it fits the caller's key, and the key is one of
-- that shard.
pub record FitsIn {T : Type 0} (fits : T → Key → List ℕ → Type 0) (tag : Seeded T) (key : Key)
    (value : List ℕ) : Type 0 where
  pub right : fits tag.tag (key_from tag.seed key) value
  pub home : shard_of key tag.shards ≡ tag.number

abbrev pub fits_seeded : {T : Type 0} → (T → Key → List ℕ → Type 0)
    → Seeded T → Key → List ℕ → Type 0
fits_seeded fits tag key value = FitsIn fits tag key value

-- It is the seeded key of some key of the caller's, and one of the shard of this number, of so
-- many.
abbrev pub IsKeyOf : (seed shards number : ℕ) → Key → Type 0
IsKeyOf seed shards number key =
    (key_to seed (key_from seed key) ≡ key) × (shard_of key shards ≡ number)
