-- What a change of a word leaves of its fields.
use Rattle.std.specs.Prelude.{ℕ, ◌-◌, ◌≡◌, ◌<◌, ◌≤◌, min}
use Rattle.hcc_word.specs.declared.layout.TheConstants.{CORRECTION, GREATEST_CLOCKED, NEAR, VISIBLE}
use Rattle.hcc_word.specs.Word.{acquires_of, releases_of, refs_of, hit_of, state_of, word_of}

-- the new word has this acquire counter, and the old word's other fields
pub record SetsAcquires (old new acquires : ℕ) : Type 0 where
  pub changed : acquires_of new ≡ acquires
  pub releases : releases_of new ≡ releases_of old
  pub hit : hit_of new ≡ hit_of old
  pub state : state_of new ≡ state_of old

-- the new word has this release counter, and the old word's other fields
pub record SetsReleases (old new releases : ℕ) : Type 0 where
  pub changed : releases_of new ≡ releases
  pub acquires : acquires_of new ≡ acquires_of old
  pub hit : hit_of new ≡ hit_of old
  pub state : state_of new ≡ state_of old

-- the clock counts a visible entry with no references and a countdown above 0
pub record IsClockable (word : ℕ) : Type 0 where
  pub visible : state_of word ≡ VISIBLE
  pub unreferenced : refs_of word ≡ 0
  pub counted : 0 < releases_of word

-- the countdown that the clock leaves of this one
abbrev pub clocked_countdown : ℕ → ℕ
clocked_countdown countdown = min (countdown - 1) GREATEST_CLOCKED

-- both counters are the countdown that is left, and the hit bit is kept
abbrev pub clocked_word : ℕ → ℕ
clocked_word word =
    let left = clocked_countdown (releases_of word) in word_of left left (hit_of word) VISIBLE

-- both counters can lose a correction, and the uses are near overflow
pub record IsCorrectable (word : ℕ) : Type 0 where
  pub near : NEAR ≤ releases_of word
  pub enough : CORRECTION ≤ acquires_of word

-- both counters have lost a correction
abbrev pub corrected_word : ℕ → ℕ
corrected_word word =
    word_of (acquires_of word - CORRECTION) (releases_of word - CORRECTION)
    (hit_of word) (state_of word)
