-- A key's two words under a seed: in each of two rounds one word gains a mixture of the other.
use Rattle.std.specs.Prelude.{ℕ, ◌+◌, ◌-◌, ◌*◌, ◌/◌, ◌%◌, ◌^◌, ◌==◌, if◌then◌else◌, bit_xor}
use Rattle.hcc_word.specs.declared.seeding.TheConstants.{SEED_MULTIPLIER}

-- the high half is folded onto the low one
unfoldable pub folded : ℕ → ℕ
folded word = bit_xor word (word / 2 ^ 32)

-- what a round adds for this word; nothing under seed 0
unfoldable pub mixture : (seed word : ℕ) → ℕ
mixture seed word =
    if seed == 0 then 0 else folded (bit_xor word seed * SEED_MULTIPLIER % 2 ^ 64)

-- the seeded key: word 1 gains the mixture of word 0, and then word 0 gains that of the new word 1
abbrev pub seeded_key : (seed : ℕ) → ℕ × ℕ → ℕ × ℕ
seeded_key seed (k0, k1) =
    let h1 = (k1 + mixture seed k0) % 2 ^ 64 in ((k0 + mixture seed h1) % 2 ^ 64, h1)

-- the key whose seeded key this is: the rounds are taken back, the last one first
abbrev pub unseeded_key : (seed : ℕ) → ℕ × ℕ → ℕ × ℕ
unseeded_key seed (h0, h1) =
    let k0 = (h0 + (2 ^ 64 - mixture seed h1)) % 2 ^ 64 in
    (k0, (h1 + (2 ^ 64 - mixture seed k0)) % 2 ^ 64)
