-- What hiding does at the probes of a key, one after the other.
use Rattle.std.proofs.Common.{◌≡◌, ℕ, ◌+◌, ◌<◌, ◌++◌, Bool, List, [], ◌∷◌, Option, Some, None, IfSome, true, inl, inr, length, sym, subst, refl, ap, ◌∙◌, arith}
use Rattle.hcc_core.specs.declared.slot.Stamp.{Stamp}
use Rattle.hcc_core.specs.Lawful.{is_in}
use Rattle.hcc_core.specs.Sums.{total}
use Rattle.hcc_core.proofs.SumLemmas.{total-append}
use Rattle.hcc_rule.specs.declared.key.Key.{Key}
use Rattle.hcc_rule.specs.declared.table.RuleTable.{RuleTable}
use Rattle.hcc_rule.specs.Callers.{slots_of, IsEvent}
use Rattle.hcc_rule.specs.Addresses.{address_of_displacement}
use Rattle.hcc_rule.specs.Events.{count_done}
use Rattle.hcc_rule.specs.Probes.{probe_slot}
use Rattle.hcc_rule.specs.Seats.{SeatOf, Makes, view}
use Rattle.hcc_rule.specs.Views.{Each}
use Rattle.hcc_rule.proofs.Basics.Lists.{each_append, each_map}
use Rattle.hcc_table.specs.declared.efforts.Effort.{Effort}
use Rattle.hcc_table.specs.declared.hiding.Erased.{Erased}
use Rattle.hcc_table.specs.Efforts.{VisitedSlots}
use Rattle.hcc_table.specs.Hides.{HidAt, HideProbe, HidesAll, HidingGoesOn, IsDeadIn, PassesOrHides, nothing_erased}
use Rattle.hcc_table.specs.Probed.{AtProbes}
use Rattle.hcc_table.specs.Searched.{Grows}
use Rattle.hcc_table.proofs.Probings.{HasSeen, each_front, more_seen, one_longer, seen_none, seen_then, split_last}

-- a sum, and one more
total_more : {A : Type 0} (f : A → ℕ) (xs : List A) {x : A} {all here sum : ℕ}
    → all ≡ total f xs → here ≡ f x → sum ≡ all + here → sum ≡ total f (xs ++ x ∷ [])
total_more f xs {x} old one is = let split = total-append f xs (x ∷ []) in omega arith

module _ {T A : Type 0} (fits : T → Key → List ℕ → Type 0) (table : RuleTable T A) (key : Key)
    (name : ℕ) where
  abbrev Goes : HideProbe → Type 0
  Goes p = ¬ (p.found.displacement ≡ 0)

  -- So many probes were visited, this was done there, and at each a trail goes on. The list had
  -- room at each, where it has room now.
  pub record HasHid (i : ℕ) (room : Bool) (all : Erased) (before after : Effort) (old now : SeatOf
      T)
      : Type 0 where
    pub visits : HasSeen (slots_of table) key (HidAt fits table key name) Goes i before after old
        now
    pub hidden : all.hidden ≡ total (λ (p : HideProbe). p.done.hidden) visits.seen
    pub slots : all.slots ≡ total (λ (p : HideProbe). p.done.slots) visits.seen
    pub charge : all.charge ≡ total (λ (p : HideProbe). p.done.charge) visits.seen
    pub dead : Each (IsDeadIn (view now).work.dead) visits.seen
    pub roomy : Each (λ (p : HideProbe). room ≡ true → p.room ≡ true) visits.seen

  pub hid_none : {room : Bool} {effort : Effort} {seat : SeatOf T}
      → HasHid 0 room nothing_erased effort effort seat seat
  hid_none {room} {effort} {seat} = record {
    visits = seen_none (slots_of table) key (HidAt fits table key name) Goes effort seat;
    hidden = refl;
    slots = refl;
    charge = refl;
    dead = tt;
    roomy = tt;
  }

module _ {T A : Type 0} {fits : T → Key → List ℕ → Type 0} {table : RuleTable T A} {key : Key}
    {name : ℕ} where
  module _ {i slot word n : ℕ} {room left : Bool} {caught : Option Stamp} {all here : Erased}
      (sum : Erased) {e counted f g : Effort} {old now mid new : SeatOf T}
      (h : HasHid fits table key name i room all e f old now) (down : left ≡ true → room ≡ true)
      (there : slot ≡ probe_slot (slots_of table) key i) (visited : VisitedSlots 1 f counted)
      (does : PassesOrHides fits table key name room slot word caught here counted g now mid)
      (is_sum : (sum.hidden ≡ all.hidden + here.hidden) × (sum.slots ≡ all.slots + here.slots)
      × (sum.charge ≡ all.charge + here.charge))
      (counts : Makes (address_of_displacement table slot) 0 0 n mid new)
      (event : IsEvent table (count_done slot n (view mid)) mid new)
      (kept : view new ≡ view mid) (grows : Grows (view now).work.dead (view mid).work.dead)
      (buried : IfSome caught (λ stamp. is_in stamp (view mid).work.dead ≡ true)) where
    abbrev probe : HideProbe
    probe = record {
      found = record { word = word; displacement = n };
      room = room;
      caught = caught;
      done = here;
    }

    abbrev at : HidAt fits table key name slot probe f g now new
    at = record {
      between = counted;
      visited = visited;
      mid = mid;
      does = does;
      counts = counts;
      event = event;
      kept = kept;
    }

    hidden_more : sum.hidden
        ≡ total (λ (p : HideProbe). p.done.hidden) (h.visits.seen ++ probe ∷ [])
    hidden_more = total_more (λ (p : HideProbe). p.done.hidden) h.visits.seen h.hidden refl is_sum.0

    slots_more : sum.slots ≡ total (λ (p : HideProbe). p.done.slots) (h.visits.seen ++ probe ∷ [])
    slots_more = total_more (λ (p : HideProbe). p.done.slots) h.visits.seen h.slots refl is_sum.1

    charge_more : sum.charge
        ≡ total (λ (p : HideProbe). p.done.charge) (h.visits.seen ++ probe ∷ [])
    charge_more = total_more (λ (p : HideProbe). p.done.charge) h.visits.seen h.charge refl is_sum.2

    grown : (o : Option Stamp) → IfSome o (λ stamp. is_in stamp (view now).work.dead ≡ true)
        → IfSome o (λ stamp. is_in stamp (view mid).work.dead ≡ true)
    grown None was = tt
    grown (Some stamp) was = grows stamp was

    dead_more : Each (IsDeadIn (view new).work.dead) (h.visits.seen ++ probe ∷ [])
    dead_more = rw kept
        (each_append (IsDeadIn (view mid).work.dead) h.visits.seen (probe ∷ [])
        (each_map (IsDeadIn (view now).work.dead) (IsDeadIn (view mid).work.dead)
        (λ p. grown p.caught) h.visits.seen h.dead) (buried, tt))

    roomy_more : Each (λ (p : HideProbe). left ≡ true → p.room ≡ true) (h.visits.seen ++ probe ∷ [])
    roomy_more =
        each_append (λ (p : HideProbe). left ≡ true → p.room ≡ true) h.visits.seen (probe ∷ [])
        (each_map (λ (p : HideProbe). room ≡ true → p.room ≡ true)
        (λ (p : HideProbe). left ≡ true → p.room ≡ true) (λ p had some. had (down some))
        h.visits.seen h.roomy) (down, tt)

    -- It goes on,
    pub hid_then : ¬ (n ≡ 0) → HasHid fits table key name (i + 1) left sum e g old new
    hid_then some = record {
      visits = seen_then h.visits there at some;
      hidden = hidden_more;
      slots = slots_more;
      charge = charge_more;
      dead = dead_more;
      roomy = roomy_more;
    }

    -- or ends here.
    pub hides_here : n ≡ 0 → HidesAll fits table key name left sum e g old new
    hides_here none = record {
      earlier = h.visits.seen;
      last = probe;
      probes = more_seen h.visits there at;
      goes_on = h.visits.goes_on;
      ends = inl none;
      hidden = hidden_more;
      slots = slots_more;
      charge = charge_more;
      dead = dead_more;
      roomy = roomy_more;
    }

  -- It ends after all probes.
  pub hides_every : {i : ℕ} {room : Bool} {all : Erased} {e f : Effort} {old now : SeatOf T}
      → HasHid fits table key name i room all e f old now → 0 < i → i ≡ slots_of table
      → HidesAll fits table key name room all e f old now
  hides_every {i} {room} {all} {e} {f} {old} {now} h some whole = record {
    earlier = split.0;
    last = split.1;
    probes =
        subst (λ (ps : List HideProbe).
        AtProbes (slots_of table) key (HidAt fits table key name) 0 ps e f old now) split.2
        h.visits.probes;
    goes_on = each_front (Goes fits table key name) split.0 (split.1 ∷ [])
        (subst (λ (ps : List HideProbe). HidingGoesOn ps) split.2 h.visits.goes_on);
    ends = inr (sym (sym h.visits.long ∙ ap length split.2 ∙ one_longer split.0 split.1) ∙ whole);
    hidden = h.hidden ∙ ap (total (λ (p : HideProbe). p.done.hidden)) split.2;
    slots = h.slots ∙ ap (total (λ (p : HideProbe). p.done.slots)) split.2;
    charge = h.charge ∙ ap (total (λ (p : HideProbe). p.done.charge)) split.2;
    dead =
        subst (λ (ps : List HideProbe). Each (IsDeadIn (view now).work.dead) ps) split.2 h.dead;
    roomy = subst (λ (ps : List HideProbe). Each (λ (p : HideProbe). room ≡ true → p.room ≡ true)
        ps)
        split.2 h.roomy;
  }
    where
      split : (before : List HideProbe) × (last : HideProbe)
          × (h.visits.seen ≡ before ++ last ∷ [])
      split = split_last h.visits.seen (omega (arith, h.visits.long))
