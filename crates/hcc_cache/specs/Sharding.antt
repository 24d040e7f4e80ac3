-- Where a key goes: its seeded key, the shard of that, and the slot there.
use Rattle.std.specs.Prelude.{◌≡◌, ℕ, ◌/◌, ◌%◌, ◌^◌, ◌<◌}
use Rattle.hcc_word.specs.Seeding.{seeded_key}
use Rattle.hcc_rule.specs.declared.key.Key.{Key}
use Rattle.hcc_rule.specs.Probes.{probe_slot}

abbrev pub key_of_words : ℕ × ℕ → Key
key_of_words words = record { w0 = words.0; w1 = words.1 }

-- the seeded key of the caller's key
abbrev pub key_to : (seed : ℕ) → Key → Key
key_to seed key = key_of_words (seeded_key seed (key.w0, key.w1))

-- the shard of a seeded key, by the upper half of its first word
abbrev pub shard_of : Key → (shards : ℕ) → ℕ
shard_of key shards = key.w0 / 2 ^ 32 % shards

-- A search for this seeded key that goes on at such slots comes to this slot: it is that of a probe
-- of the key, and that of each earlier probe is such a one.
pub record IsReached (slots : ℕ) (key : Key) (IsPassed : ℕ → Type 0) (slot : ℕ) : Type 0 where
  pub probe : ℕ
  pub here : slot ≡ probe_slot slots key probe
  pub passes : (i : ℕ) → i < probe → IsPassed (probe_slot slots key i)
