-- Registers that are filled and emptied.
use Rattle.std.proofs.Common.{◌≡◌, ◌≢◌, ℕ, zero, suc, ◌+◌, ◌==◌, inl, inr, true, false, List}
use Rattle.std.proofs.Common.{[], ◌∷◌, ◌++◌, Option, Some, None, length, refl, sym, ap, ◌∙◌, subst}
use Rattle.std.proofs.Common.{arith, rules, tests}
use Rattle.std.specs.Prelude.{is_some}
use Rattle.std.proofs.lemmas.Bool.{cases_eq}
use Rattle.hcc_rule.specs.declared.key.Key.{Key}
use Rattle.hcc_cache.specs.declared.cache.Cache.{Cache}
use Rattle.hcc_cache.specs.declared.client.Client.{Client}
use Rattle.hcc_cache.specs.declared.handle.Handle.{Handle}
use Rattle.hcc_cache.specs.declared.config.Config.{Config}
use Rattle.hcc_cache.specs.Calls.{Gains, IsSelf, KeepsAll, Loses, UsesNone}
use Rattle.hcc_cache.specs.Clients.{Held, Insertion, held_by, held_of, hold_of}
use Rattle.hcc_cache.specs.Inserts.{KeepsHandles}
use Rattle.hcc_cache.specs.Known.{Knows}
use Rattle.hcc_player.specs.declared.run.registers.Filled.{Filled}
use Rattle.hcc_player.specs.declared.run.registers.Registers.{Registers}
use Rattle.hcc_player.specs.Runs.{AreEmpty}
use Rattle.hcc_player.specs.Registers.{at, filled_with, filled_without, AreFilled, AreOnce, IsFilled}
use Rattle.hcc_player.specs.Registers.{IsLimited, IsOn}
use Rattle.hcc_player.specs.RunStates.{State, with_emptied, with_filled, with_register, with_serial}

-- Of the list of full registers.

-- the first one, and those behind it
pub first_at : (f : Filled) (fs : List Filled) (r : ℕ) → f.register ≡ r
    → at (f ∷ fs) r ≡ Some f.handle
first_at f fs r same =
    let yes : (f.register == r) ≡ true = search (rules, tests) in rw yes refl

pub behind_at : (f : Filled) (fs : List Filled) (r : ℕ) → f.register ≢ r
    → at (f ∷ fs) r ≡ at fs r
behind_at f fs r other =
    let no : (f.register == r) ≡ false = search (rules, tests) in rw no refl

-- without one: where it is the first, and where it isn't
without_first : (f : Filled) (fs : List Filled) (r : ℕ) → f.register ≡ r
    → filled_without (f ∷ fs) r ≡ filled_without fs r
without_first f fs r same =
    let yes : (f.register == r) ≡ true = search (rules, tests) in rw yes refl

without_behind : (f : Filled) (fs : List Filled) (r : ℕ) → f.register ≢ r
    → filled_without (f ∷ fs) r ≡ f ∷ filled_without fs r
without_behind f fs r other =
    let no : (f.register == r) ≡ false = search (rules, tests) in rw no refl

-- the first one isn't one that is empty
not_first : (f : Filled) (fs : List Filled) (r : ℕ) → at (f ∷ fs) r ≡ None → f.register ≢ r
not_first f fs r empty same =
    let no : None ≡ Some f.handle = sym empty ∙ first_at f fs r same in cc

none_behind : (f : Filled) (fs : List Filled) (r : ℕ) → at (f ∷ fs) r ≡ None → at fs r ≡ None
none_behind f fs r empty = sym (behind_at f fs r (not_first f fs r empty)) ∙ empty

-- what a register holds that was filled, and another
pub at_filled : (xs : List Filled) (r : ℕ) (h : Handle) → at xs r ≡ None
    → at (filled_with xs r h) r ≡ Some h
at_filled [] r h empty = first_at (record { register = r; handle = h }) [] r refl
at_filled (f ∷ fs) r h empty =
    behind_at f (filled_with fs r h) r (not_first f fs r empty)
    ∙ at_filled fs r h (none_behind f fs r empty)

off_filled : (xs : List Filled) (r q : ℕ) (h : Handle) → q ≢ r
    → at (filled_with xs r h) q ≡ at xs q
off_filled [] r q h other =
    behind_at (record { register = r; handle = h }) [] q (λ e. other (sym e))
off_filled (f ∷ fs) r q h other =
    elim (cases_eq f.register q) [
      | inl same ↦ first_at f (filled_with fs r h) q same ∙ sym (first_at f fs q same)
      | inr far ↦ behind_at f (filled_with fs r h) q far ∙ off_filled fs r q h other
          ∙ sym (behind_at f fs q far)
    ]

-- and one that was emptied, and another
pub at_emptied : (xs : List Filled) (r : ℕ) → at (filled_without xs r) r ≡ None
at_emptied [] r = refl
at_emptied (f ∷ fs) r =
    elim (cases_eq f.register r) [
      | inl same ↦ rw (without_first f fs r same) (at_emptied fs r)
      | inr far ↦ rw (without_behind f fs r far)
          (behind_at f (filled_without fs r) r far ∙ at_emptied fs r)
    ]

off_emptied : (xs : List Filled) (r q : ℕ) → q ≢ r → at (filled_without xs r) q ≡ at xs q
off_emptied [] r q other = refl
off_emptied (f ∷ fs) r q other =
    elim (cases_eq f.register r) [
      | inl same ↦
          let far : f.register ≢ q = λ e. other (sym e ∙ same) in
          rw (without_first f fs r same) (off_emptied fs r q other ∙ sym (behind_at f fs q far))
      | inr kept ↦ rw (without_behind f fs r kept)
          (elim (cases_eq f.register q) [
            | inl same ↦ first_at f (filled_without fs r) q same ∙ sym (first_at f fs q same)
            | inr far ↦ behind_at f (filled_without fs r) q far ∙ off_emptied fs r q other
                ∙ sym (behind_at f fs q far)
          ])
    ]

-- each is kept once
once_filled : (xs : List Filled) (r : ℕ) (h : Handle) → AreOnce xs → at xs r ≡ None
    → AreOnce (filled_with xs r h)
once_filled [] r h once empty = (refl, tt)
once_filled (f ∷ fs) r h once empty = (
  off_filled fs r f.register h (not_first f fs r empty) ∙ once.0,
  once_filled fs r h once.1 (none_behind f fs r empty),
)

once_emptied : (xs : List Filled) (r : ℕ) → AreOnce xs → AreOnce (filled_without xs r)
once_emptied [] r once = tt
once_emptied (f ∷ fs) r once =
    elim (cases_eq f.register r) [
      | inl same ↦ rw (without_first f fs r same) (once_emptied fs r once.1)
      | inr far ↦ rw (without_behind f fs r far)
          (off_emptied fs r f.register far ∙ once.0, once_emptied fs r once.1)
    ]

-- how many are full
one_more : (xs : List Filled) (r : ℕ) (h : Handle)
    → length (filled_with xs r h) ≡ length xs + 1
one_more [] r h = refl
one_more (f ∷ fs) r h = let rest = one_more fs r h in omega arith

all_kept : (xs : List Filled) (r : ℕ) → at xs r ≡ None → filled_without xs r ≡ xs
all_kept [] r empty = refl
all_kept (f ∷ fs) r empty =
    without_behind f fs r (not_first f fs r empty)
    ∙ ap (λ l. f ∷ l) (all_kept fs r (none_behind f fs r empty))

-- without the first one are those behind it
pub those_behind : (f : Filled) (fs : List Filled) → AreOnce (f ∷ fs)
    → filled_without (f ∷ fs) f.register ≡ fs
those_behind f fs once =
    without_first f fs f.register refl ∙ all_kept fs f.register once.0

one_less : (xs : List Filled) (r : ℕ) (h : Handle) → AreOnce xs → at xs r ≡ Some h
    → length (filled_without xs r) + 1 ≡ length xs
one_less [] r h once full = cc
one_less (f ∷ fs) r h once full =
    elim (cases_eq f.register r) [
      | inl same ↦
          let all = ap length (all_kept fs r (subst (λ n. at fs n ≡ None) same once.0)) in
          rw (without_first f fs r same) (omega arith)
      | inr far ↦
          let rest = one_less fs r h once.1 (sym (behind_at f fs r far) ∙ full) in
          rw (without_behind f fs r far) (omega arith)
    ]

-- clients more whose registers are empty
pub empty_more : (all : List Registers) (x : Registers) → AreEmpty all → x.filled.items ≡ []
    → AreEmpty (all ++ x ∷ [])
empty_more [] x empty here zero held at = let same : x ≡ held = cc in rw (← same) here
empty_more [] x empty here (suc c) held at = cc
empty_more (y ∷ ys) x empty here zero held at = empty 0 held at
empty_more (y ∷ ys) x empty here (suc c) held at =
    empty_more ys x (λ k. empty (suc k)) here c held at

module _ {T : Type 0} (fits : T → Key → List ℕ → Type 0) (cache : Cache T) where
  -- a register of which nothing is told is empty
  pub none_empty : (client : Client T) (told : Option Insertion) (held : Option Handle)
      → IsFilled fits cache client told held → told ≡ None → held ≡ None
  none_empty client told None filled none = refl
  none_empty client told (Some h) filled none =
      let no : None ≡ Some filled.held.insertion = sym none ∙ filled.inserted in cc

  kept_filled : (old new : Client T) (told : Option Insertion) (held : Option Handle)
      → ((h : Handle) → held ≡ Some h → held_of cache new h ≡ held_of cache old h)
      → IsFilled fits cache old told held → IsFilled fits cache new told held
  kept_filled old new told None same filled = filled
  kept_filled old new told (Some h) same filled = record {
    held = filled.held;
    here = same h refl ∙ filled.here;
    inserted = filled.inserted;
    right = filled.right;
  }

  -- what a filled register says of a handle that it holds
  on_at : (client : Client T) (told : Option Insertion) (held : Option Handle) (h : Handle)
      → held ≡ Some h → IsFilled fits cache client told held → IsOn fits cache client h told
  on_at client told None h full filled = cc
  on_at client told (Some g) h full filled =
      let same : g ≡ h = cc in subst (λ x. IsOn fits cache client x told) same filled

  -- a handle that nobody holds stands for nothing
  pub unheld : (client : Client T) (h : Handle) → hold_of client h ≡ None
      → held_of cache client h ≡ None
  unheld client h free = rw free refl

module _ {T : Type 0} (fits : T → Key → List ℕ → Type 0) (cache : Cache T) (config : Config) where
  -- Limits, where the client used no serial, or one.

  limits_kept : (s : State) (old new : Client T) → IsSelf old new → held_by new ≡ held_by old
      → UsesNone old new → IsLimited fits cache config s old → IsLimited fits cache config s new
  limits_kept s old new self count serials l = record {
    full = count ∙ l.full;
    most = self.1 ∙ l.most;
    serials = ap (λ n. s.used + n) serials.1 ∙ l.serials;
    strict = l.strict;
    capacity = l.capacity;
  }

  serials_less : (used left left' all : ℕ) → left' + 1 ≡ left → used + left ≡ all
      → (used + 1) + left' ≡ all
  serials_less used left left' all less whole = omega arith

  -- the client holds what it held, and used no serial
  pub same_filled : (s : State) (old new : Client T) (handles : List Filled)
      → Knows cache new → IsSelf old new → KeepsAll cache old new
      → AreFilled fits cache config s old handles → AreFilled fits cache config s new handles
  same_filled s old new handles known self keeps so_far = record {
    known = known;
    limited = limits_kept s old new self keeps.count keeps.serials so_far.limited;
    each = λ r. kept_filled fits cache old new (s.registers r) (at handles r)
        (λ h full. keeps.all h) (so_far.each r);
    apart = so_far.apart;
    count = keeps.count ∙ so_far.count;
    once = so_far.once;
    alike = λ r q h k a b name here there on off. so_far.alike r q h k a b name here there
        (sym (keeps.all h) ∙ on) (sym (keeps.all k) ∙ off);
    kinds = λ r h held full on. so_far.kinds r h held full (sym (keeps.all h) ∙ on);
  }

  -- or one
  pub serial_filled : (s : State) (old new : Client T) (handles : List Filled)
      → Knows cache new → IsSelf old new → KeepsHandles cache old new
      → AreFilled fits cache config s old handles
      → AreFilled fits cache config (with_serial s) new handles
  serial_filled s old new handles known self keeps so_far = record {
    known = known;
    limited = record {
      full = keeps.count ∙ so_far.limited.full;
      most = self.1 ∙ so_far.limited.most;
      serials = serials_less s.used old.left new.left config.serials keeps.serials.1
          so_far.limited.serials;
      strict = so_far.limited.strict;
      capacity = so_far.limited.capacity;
    };
    each = λ r. kept_filled fits cache old new (s.registers r) (at handles r)
        (λ h full. keeps.all h) (so_far.each r);
    apart = so_far.apart;
    count = keeps.count ∙ so_far.count;
    once = so_far.once;
    alike = λ r q h k a b name here there on off. so_far.alike r q h k a b name here there
        (sym (keeps.all h) ∙ on) (sym (keeps.all k) ∙ off);
    kinds = λ r h held full on. so_far.kinds r h held full (sym (keeps.all h) ∙ on);
  }

  pub on_register : (s : State) (client : Client T) (handles : List Filled) (r : ℕ)
      (h : Handle) → at handles r ≡ Some h → AreFilled fits cache config s client handles
      → IsOn fits cache client h (s.registers r)
  on_register s client handles r h full so_far =
      on_at fits cache client (s.registers r) (at handles r) h full (so_far.each r)

  -- a standalone entry that a handle stands for has one insertion, with those of the registers
  abbrev pub IsAlike : Client T → List Filled → Held → Type 0
  IsAlike old handles held =
      (q : ℕ) (k : Handle) (b : Held) (name : ℕ) → at handles q ≡ Some k
      → held_of cache old k ≡ Some b → held.standing ≡ Some name → b.standing ≡ Some name
      → held.insertion ≡ b.insertion

  -- an empty register is filled
  pub more_filled : (s : State) (old new : Client T) (handles : List Filled) (r : ℕ)
      (handle : Handle) (held : Held) → Knows cache new → IsSelf old new
      → Gains cache handle held old new
      → fits cache.tag held.insertion.key held.insertion.value
      → at handles r ≡ None → IsAlike old handles held → AreFilled fits cache config s old handles
      → AreFilled fits cache config (with_filled s r held.insertion (is_some held.standing)) new
      (filled_with handles r handle)
  more_filled s old new handles r handle held known self gains right empty fresh so_far = record {
    known = known;
    limited = record {
      full = gains.count ∙ ap (λ n. n + 1) so_far.limited.full;
      most = self.1 ∙ so_far.limited.most;
      serials = serials_less s.used old.left new.left config.serials gains.serials.1
          so_far.limited.serials;
      strict = so_far.limited.strict;
      capacity = so_far.limited.capacity;
    };
    each = each;
    apart = apart;
    count = gains.count ∙ ap (λ n. n + 1) so_far.count ∙ sym (one_more handles r handle);
    once = once_filled handles r handle so_far.once empty;
    kinds = kinds;
    alike = alike;
  }
    where
      -- a handle that was held is another one
      other_held : (q : ℕ) (h : Handle) → at handles q ≡ Some h → h ≢ handle
      other_held q h full same =
          let on = on_register s old handles q h full so_far in
          let none : held_of cache old h ≡ None =
          rw same (unheld fits cache old handle gains.free) in
          let no : None ≡ Some on.held = sym none ∙ on.here in cc

      each : (q : ℕ) → IsFilled fits cache new
          (with_register s.registers r (Some held.insertion) q)
          (at (filled_with handles r handle) q)
      each q =
          elim (cases_eq q r) [
            | inl same ↦
                let yes : (q == r) ≡ true = search (rules, tests) in
                let here : at (filled_with handles r handle) q ≡ Some handle =
                rw same (at_filled handles r handle empty) in
                rw (yes, here)
                (record { held = held; here = gains.stands; inserted = refl; right = right })
            | inr other ↦
                let no : (q == r) ≡ false = search (rules, tests) in
                rw (no, off_filled handles r q handle other)
                (kept_filled fits cache old new (s.registers q) (at handles q)
                (λ h full. gains.others h (other_held q h full)) (so_far.each q))
          ]

      -- the other registers hold others
      old_at : (q : ℕ) (h : Handle) → q ≢ r
          → at (filled_with handles r handle) q ≡ Some h → at handles q ≡ Some h
      old_at q h other full = sym (off_filled handles r q handle other) ∙ full

      new_at : (q : ℕ) (h : Handle) → q ≡ r
          → at (filled_with handles r handle) q ≡ Some h → h ≡ handle
      new_at q h same full =
          let here : at (filled_with handles r handle) q ≡ Some handle =
          rw same (at_filled handles r handle empty) in
          let told : Some h ≡ Some handle = sym full ∙ here in cc

      apart : (q p : ℕ) (h : Handle) → at (filled_with handles r handle) q ≡ Some h
          → at (filled_with handles r handle) p ≡ Some h → q ≡ p
      apart q p h here there =
          elim (cases_eq q r) [
            | inl first ↦
                elim (cases_eq p r) [
                  | inl second ↦ first ∙ sym second
                  | inr second ↦
                      absurd (other_held p h (old_at p h second there) (new_at q h first here))
                ]
            | inr first ↦
                elim (cases_eq p r) [
                  | inl second ↦
                      absurd (other_held q h (old_at q h first here) (new_at p h second there))
                  | inr second ↦
                      so_far.apart q p h (old_at q h first here) (old_at p h second there)
                ]
          ]

      new_held : (q : ℕ) (h : Handle) (a : Held) → q ≡ r
          → at (filled_with handles r handle) q ≡ Some h → held_of cache new h ≡ Some a → a ≡ held
      new_held q h a same full on =
          let both : Some a ≡ Some held =
          sym on ∙ ap (held_of cache new) (new_at q h same full) ∙ gains.stands in cc

      old_held : (q : ℕ) (h : Handle) (a : Held) → q ≢ r
          → at (filled_with handles r handle) q ≡ Some h → held_of cache new h ≡ Some a
          → held_of cache old h ≡ Some a
      old_held q h a other full on =
          sym (gains.others h (other_held q h (old_at q h other full))) ∙ on

      kinds : (q : ℕ) (h : Handle) (a : Held) → at (filled_with handles r handle) q ≡ Some h
          → held_of cache new h ≡ Some a
          → with_register s.alone r (is_some held.standing) q ≡ is_some a.standing
      kinds q h a here on =
          elim (cases_eq q r) [
            | inl same ↦
                let yes : (q == r) ≡ true = search (rules, tests) in
                rw yes
                (ap (λ (x : Held). is_some x.standing) (sym (new_held q h a same here on)))
            | inr other ↦
                let no : (q == r) ≡ false = search (rules, tests) in
                rw no
                (so_far.kinds q h a (old_at q h other here) (old_held q h a other here on))
          ]

      alike : (q p : ℕ) (h k : Handle) (a b : Held) (name : ℕ)
          → at (filled_with handles r handle) q ≡ Some h
          → at (filled_with handles r handle) p ≡ Some k → held_of cache new h ≡ Some a
          → held_of cache new k ≡ Some b → a.standing ≡ Some name → b.standing ≡ Some name
          → a.insertion ≡ b.insertion
      alike q p h k a b name here there on off is same =
          elim (cases_eq q r) [
            | inl first ↦
                let mine = new_held q h a first here on in
                elim (cases_eq p r) [
                  | inl second ↦
                      let its = new_held p k b second there off in
                      ap (λ (x : Held). x.insertion) (mine ∙ sym its)
                  | inr second ↦
                      ap (λ (x : Held). x.insertion) mine
                      ∙ fresh p k b name (old_at p k second there) (old_held p k b second there off)
                      (ap (λ (x : Held). x.standing) (sym mine) ∙ is) same
                ]
            | inr first ↦
                elim (cases_eq p r) [
                  | inl second ↦
                      let its = new_held p k b second there off in
                      sym (ap (λ (x : Held). x.insertion) its
                      ∙ fresh q h a name (old_at q h first here) (old_held q h a first here on)
                      (ap (λ (x : Held). x.standing) (sym its) ∙ same) is)
                  | inr second ↦
                      so_far.alike q p h k a b name (old_at q h first here)
                      (old_at p k second there) (old_held q h a first here on)
                      (old_held p k b second there off) is same
                ]
          ]

  -- a full register is emptied
  pub less_filled : (s : State) (old new : Client T) (handles : List Filled) (r : ℕ)
      (handle : Handle) → Knows cache new → IsSelf old new → Loses cache handle old new
      → at handles r ≡ Some handle → AreFilled fits cache config s old handles
      → AreFilled fits cache config (with_emptied s r) new (filled_without handles r)
  less_filled s old new handles r handle known self loses full so_far = record {
    known = known;
    limited = record {
      full = let less = loses.count in let whole = so_far.limited.full in omega arith;
      most = self.1 ∙ so_far.limited.most;
      serials = ap (λ n. s.used + n) loses.serials.1 ∙ so_far.limited.serials;
      strict = so_far.limited.strict;
      capacity = so_far.limited.capacity;
    };
    each = each;
    apart = apart;
    count = let less = one_less handles r handle so_far.once full in
        let whole = so_far.count in let fewer = loses.count in omega arith;
    once = once_emptied handles r so_far.once;
    kinds = λ q h held here on. so_far.kinds q h held (old_at q h here)
        (sym (loses.others h (not_gone q h here)) ∙ on);
    alike = λ q p h k a b name here there on off. so_far.alike q p h k a b name (old_at q h here)
        (old_at p k there) (sym (loses.others h (not_gone q h here)) ∙ on)
        (sym (loses.others k (not_gone p k there)) ∙ off);
  }
    where
      each : (q : ℕ) → IsFilled fits cache new (with_register s.registers r None q)
          (at (filled_without handles r) q)
      each q =
          elim (cases_eq q r) [
            | inl same ↦
                let yes : (q == r) ≡ true = search (rules, tests) in
                let here : at (filled_without handles r) q ≡ None =
                rw same (at_emptied handles r) in
                rw (yes, here) refl
            | inr other ↦
                let no : (q == r) ≡ false = search (rules, tests) in
                rw (no, off_emptied handles r q other)
                (kept_filled fits cache old new (s.registers q) (at handles q)
                (λ h there. loses.others h (λ same. other (so_far.apart q r handle
                (rw same at there) full))) (so_far.each q))
          ]

      old_at : (q : ℕ) (h : Handle) → at (filled_without handles r) q ≡ Some h
          → at handles q ≡ Some h
      old_at q h there =
          elim (cases_eq q r) [
            | inl same ↦
                let here : at (filled_without handles r) q ≡ None =
                rw same (at_emptied handles r) in
                let no : None ≡ Some h = sym here ∙ there in cc
            | inr other ↦ sym (off_emptied handles r q other) ∙ there
          ]

      -- the handle is in no register any more
      not_gone : (q : ℕ) (h : Handle) → at (filled_without handles r) q ≡ Some h → h ≢ handle
      not_gone q h there same =
          let here : q ≡ r =
          so_far.apart q r handle (subst (λ x. at handles q ≡ Some x) same (old_at q h there)) full
          in
          let none : at (filled_without handles r) q ≡ None = rw here (at_emptied handles r) in
          let no : None ≡ Some h = sym none ∙ there in cc

      apart : (q p : ℕ) (h : Handle) → at (filled_without handles r) q ≡ Some h
          → at (filled_without handles r) p ≡ Some h → q ≡ p
      apart q p h here there = so_far.apart q p h (old_at q h here) (old_at p h there)
