-- What is read of the views of seats.
use Rattle.std.specs.Prelude.{ℕ, ◌+◌, Bool, ◌&&◌, ◌==◌, List, [], ◌∷◌, is_some, length}
use Rattle.hcc_core.specs.declared.slot.Reference.{Reference}
use Rattle.hcc_core.specs.Sums.{when, total}
use Rattle.hcc_rule.specs.declared.view.Made.{Made}
use Rattle.hcc_rule.specs.declared.view.Record.{Record}
use Rattle.hcc_rule.specs.declared.view.Other.{Other}
use Rattle.hcc_rule.specs.declared.view.View.{View}

-- Of records.

-- the reference that a record of this client is of
abbrev pub reference_of : ℕ → Record → Reference
reference_of client r = record {
  client = client;
  name = r.name;
  weight = r.weight;
  counting =
      r.counting;
}

abbrev pub is_on : ℕ → Record → Bool
is_on slot r = r.slot == slot

abbrev pub is_called : ℕ → Record → Bool
is_called name r = r.name == name

-- what all records weigh
abbrev pub load_of : List Record → ℕ
load_of = total (λ (r : Record). r.weight)

-- how many records have this name
abbrev pub times_called : ℕ → List Record → ℕ
times_called name = total (λ r. when (is_called name r) 1)

-- Of views.

-- whether it stands for a client
abbrev pub is_seated : {T : Type 0} → View T → Bool
is_seated v = is_some v.tag

-- what its records of a slot weigh, by any weighing of references
abbrev pub held : {T : Type 0} → ℕ → (Reference → ℕ) → View T → ℕ
held slot h v = total (λ r. when (is_on slot r) (h (reference_of v.client r))) v.records

-- how often it names a client
abbrev pub names : {T : Type 0} → ℕ → View T → ℕ
names client v =
    when (is_seated v && v.client == client) 1
    + total (λ (o : Other). when (o.client == client) 1) v.others

-- the charges of all entries that its client showed
abbrev pub charge_made : {T : Type 0} → View T → ℕ
charge_made v = total (λ (m : Made). m.charge) v.made

-- how many clients it names
abbrev pub named_by : {T : Type 0} → View T → ℕ
named_by v = when (is_seated v) 1 + length v.others

-- P of each member
abbrev pub Each : {A : Type 0} → (A → Type 0) → List A → Type 0
Each P [] = Unit {0}
Each P (x ∷ xs) = P x × Each P xs
