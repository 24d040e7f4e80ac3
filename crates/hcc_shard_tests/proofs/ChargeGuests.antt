-- The clients of `hcc_charge`, from call to call.
use Rattle.std.proofs.Common.{◌≡◌, ℕ, ◌+◌, ◌-◌, ◌<◌, ◌≤◌, ◌++◌, cond, List, [], ◌∷◌, Option, Some, None, IfSome, length, sym, subst, refl, ap, ◌∙◌, arith}
use Rattle.std.proofs.lemmas.Bool.{ne_eqb}
use Rattle.hcc_core.specs.declared.client.Place.TheVariants as places
use Rattle.hcc_core.specs.declared.limits.TheConstants.{MOST_CLIENTS}
use Rattle.hcc_core.specs.declared.slot.Entry.{Entry}
use Rattle.hcc_core.proofs.SumLemmas.{total-append}
use Rattle.hcc_rule.specs.declared.key.Key.{Key}
use Rattle.hcc_rule.specs.declared.rule.Plan.{Plan}
use Rattle.hcc_rule.specs.declared.steps.shows.Draft.{Draft}
use Rattle.hcc_rule.specs.declared.view.Record.{Record}
use Rattle.hcc_rule.specs.declared.view.View.{View}
use Rattle.hcc_rule.specs.Rule.{IsAbove, IsRight}
use Rattle.hcc_rule.specs.ToldOwners.{first_records, made_of, shown_entry}
use Rattle.hcc_rule.specs.Views.{Each, load_of}
use Rattle.hcc_rule.specs.Records.{record_in}
use Rattle.hcc_table.specs.Inserted.{IsPlaced, MayInsert}
use Rattle.hcc_shard_tests.specs.ChargeGuests.{IsDrafted, IsGuest}
use Rattle.hcc_charge.proofs.Visitings.{one_longer}
use Rattle.hcc_shard.proofs.Names.{above_more}

-- a name that no reference has
pub unnamed : (x : ℕ) (rs : List Record) → Each (λ (r : Record). r.name < x) rs
    → record_in x rs ≡ None
unnamed x [] h = refl
unnamed x (r ∷ rs) h =
    ap (λ b. cond b (Some r) (record_in x rs))
    (ne_eqb r.name x (λ same. (let less = h.0 in absurd (omega arith))))
    ∙ unnamed x rs h.1

-- a reference more, or none
pub named_more : (shown slot : ℕ) (name : Option ℕ) (entry : Entry) (rs : List Record)
    → IfSome name (λ x. x ≡ shown) → Each (λ (r : Record). r.name < shown) rs
    → Each (λ (r : Record). r.name < shown + 1) (rs ++ first_records slot name entry)
named_more shown slot None entry [] is h = tt
named_more shown slot (Some x) entry [] is h = ((omega arith), tt)
named_more shown slot name entry (r ∷ rs) is h =
    ((let less = h.0 in omega arith), named_more shown slot name entry rs is h.1)

pub loaded_more : (shown slot : ℕ) (name : Option ℕ) (entry : Entry) (rs : List Record)
    → load_of rs ≤ shown → load_of (rs ++ first_records slot name entry) ≤ shown + 1
loaded_more shown slot name entry rs h =
    let sum = total-append (λ (r : Record). r.weight) rs (first_records slot name entry) in
    let most = one name in
    omega arith
  where
    one : (name : Option ℕ) → load_of (first_records slot name entry) ≤ 1
    one None = omega arith
    one (Some x) = omega arith

module _ {T : Type 0} where
  -- A guest that was granted a place and a charge may insert an entry,
  pub guest_may : (fits : T → Key → List ℕ → Type 0) (p : Plan T) (draft : Draft) (value : List ℕ)
      (client shown : ℕ) (v : View T) → IsGuest places.Granted draft.charge client shown v
      → IsDrafted shown draft → client < MOST_CLIENTS → shown < 10000
      → IsRight fits p.tag p.geometry.room (made_of draft value)
      → MayInsert fits p draft value client shown v
  guest_may fits p draft value client shown v g d known few right = record {
    own = sym g.own;
    known = known;
    idle = g.rest.0;
    place = g.placed;
    needed = g.settled.0;
    paid = let all = g.paid in omega arith;
    right = right;
    some = d.some;
    few = d.few;
    fresh = unnamed shown v.records g.names;
    called = d.name;
    room = let load = g.load in omega arith;
    stamps = let made = g.made in omega arith;
    above = rw d.serial g.above;
  }

  -- and has nothing in hand once its entry was put in.
  pub guest_placed : (slots slot i client shown : ℕ) (draft : Draft) (value : List ℕ) (v w : View T)
      → IsGuest places.Granted draft.charge client shown v → IsDrafted shown draft
      → IsPlaced slots slot i draft value v w → IsGuest places.Absent 0 client (shown + 1) w
  guest_placed slots slot i client shown draft value v w g d at =
      let same = at.tried.same in
      record {
        live = ap (λ (z : View T). z.work.live) same ∙ g.live;
        rest = (ap (λ (z : View T). z.work.owned) same, ap (λ (z : View T). z.work.trail) same);
        placed = ap (λ (z : View T). z.work.place) same;
        paid =
            let left : w.work.granted ≡ v.work.granted - draft.charge =
            ap (λ (z : View T). z.work.granted) same in
            let all = g.paid in
            omega arith;
        settled = (
          ap (λ (z : View T). z.work.needed) same ∙ g.settled.0,
          ap (λ (z : View T). z.work.freed) same ∙ g.settled.1,
          ap (λ (z : View T). z.work.freed_slots) same ∙ g.settled.2,
        );
        own = ap (λ (z : View T). z.client) same ∙ g.own;
        made =
            subst (λ m. length m ≤ shown + 1) (sym (ap (λ (z : View T). z.made) same))
            (let longer = one_longer v.made (made_of draft value) in
            let made = g.made in
            omega arith);
        above =
            subst (IsAbove (shown + 1)) (sym (ap (λ (z : View T). z.made) same))
            (above_more shown v.made (made_of draft value) d.serial g.above);
        names =
            subst (Each (λ (q : Record). q.name < shown + 1))
            (sym (ap (λ (z : View T). z.records) same))
            (named_more shown slot draft.name (shown_entry v (made_of draft value)) v.records d.name
            g.names);
        load =
            subst (λ rs. load_of rs ≤ shown + 1) (sym (ap (λ (z : View T). z.records) same))
            (loaded_more shown slot draft.name (shown_entry v (made_of draft value)) v.records
            g.load);
      }
