-- What counting the charge of an entry that is held finds, step by step.
use Rattle.std.specs.Prelude.{◌≡◌, ℕ, ◌&&◌, Bool, true, false, List, IfSome, IsSomeAnd}
use Rattle.hcc_word.specs.Word.{is_referenced, is_shareable}
use Rattle.hcc_rule.specs.declared.key.Key.{Key}
use Rattle.hcc_rule.specs.declared.layout.TheConstants.{CHARGE}
use Rattle.hcc_rule.specs.declared.table.RuleTable.{RuleTable}
use Rattle.hcc_rule.specs.Addresses.{address_of_data, address_of_meta}
use Rattle.hcc_rule.specs.Callers.{IsEvent}
use Rattle.hcc_rule.specs.Events.{give_done, read_done}
use Rattle.hcc_rule.specs.Seats.{SeatOf, Makes, view}
use Rattle.hcc_rule.specs.Records.{record_in}
use Rattle.hcc_table.specs.declared.efforts.Effort.{Effort}
use Rattle.hcc_table.specs.Probed.{Looks, Reaches}

-- whether this is the word of an entry with references
abbrev pub is_held : ℕ → Bool
is_held word = is_shareable word && is_referenced word

module _ {T A : Type 0} (fits : T → Key → List ℕ → Type 0) (table : RuleTable T A) (name : ℕ) where
  -- The charge of the entry of a reference was loaded, and the reference was given back, by one
  -- subtraction: it was no use.
  pub record ReadsCharge (slot : ℕ) (old new : SeatOf T) : Type 0 where
    pub word : ℕ
    pub mid : SeatOf T
    pub loads : Makes (address_of_data table slot CHARGE) 0 0 word old mid
    pub reads : IfSome (record_in name (view old).records)
        (λ r. IsEvent table (read_done name r.entry (view old)) old mid)
    pub left : ℕ
    pub subtracts : Makes (address_of_meta table slot) 1 0 left mid new
    pub gives : IsEvent table (give_done 1 name left (view mid)) mid new

  -- A reference was acquired on a slot. Where the add found an entry with references, the charge is
  -- that entry's, else 0. Where it found an entry, its charge was read and the reference given
  -- back; else nothing more was done.
  pub record CountsReached (slot charge : ℕ) (before after : Effort) (old new : SeatOf T)
      : Type 0 where
    pub word : ℕ
    pub mid : SeatOf T
    pub reaches : Reaches fits table name slot 1 word before after old mid
    pub counted : is_held word ≡ true → IsSomeAnd (record_in name (view mid).records)
        (λ r. (r.slot ≡ slot) × (charge ≡ r.entry.charge))
    pub uncounted : is_held word ≡ false → charge ≡ 0
    pub entry : is_shareable word ≡ true → ReadsCharge slot mid new
    pub stray : is_shareable word ≡ false → new ≡ mid

  -- A slot was looked at. Where that found an entry with references, one was acquired there, else
  -- the charge is 0.
  pub record CountsHeld (slot charge : ℕ) (before after : Effort) (old new : SeatOf T)
      : Type 0 where
    pub seen : ℕ
    pub mid : SeatOf T
    pub looks : Looks table slot seen old mid
    pub unheld : is_held seen ≡ false → (charge ≡ 0) × (after ≡ before) × (new ≡ mid)
    pub held : is_held seen ≡ true → CountsReached slot charge before after mid new
