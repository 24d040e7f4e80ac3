-- The end of a trace: all that is held is released, and the cache is closed.
use Rattle.std.proofs.Common.{◌≡◌, ◌≢◌, ℕ, zero, suc, ◌+◌, ◌<◌, ◌≤◌, inl, inr, Bool, false, List, []}
use Rattle.std.proofs.Common.{◌∷◌, ◌++◌, Some, None, length, refl, sym, ap, ◌∙◌, subst, arith}
use Rattle.std.specs.Prelude.{slice_get, slice_set}
use Rattle.std.proofs.lemmas.Bool.{cases_eq}
use Rattle.hcc_rule.specs.declared.key.Key.{Key}
use Rattle.hcc_cache.specs.declared.cache.Cache.{Cache}
use Rattle.hcc_cache.specs.declared.client.Client.{Client}
use Rattle.hcc_cache.specs.declared.errors.CloseError.{CloseError}
use Rattle.hcc_cache.specs.declared.errors.CloseError.TheVariants.{Missing, HandlesOut}
use Rattle.hcc_cache.specs.Calls.{Releases}
use Rattle.hcc_cache.specs.Clients.{held_by, Holds}
use Rattle.hcc_cache.specs.Closings.{Refuses}
use Rattle.hcc_cache.specs.Known.{Knows}
use Rattle.hcc_player.specs.declared.run.registers.Filled.{Filled}
use Rattle.hcc_player.specs.declared.run.registers.Registers.{Registers}
use Rattle.hcc_player.specs.Registers.{AreFilled, CanPlay}
use Rattle.hcc_player.specs.RunCalls.{GivesBack}
use Rattle.hcc_player.specs.Runs.{LetsGo}
use Rattle.hcc_player.specs.RunStates.{with_emptied}
use Rattle.hcc_player.proofs.CallLemmas.{on_holds}
use Rattle.hcc_player.proofs.RegisterLemmas.{first_at, less_filled, on_register, those_behind}

-- the list with one member set
pub at_member : {A : Type 0} (xs : List A) (n : ℕ) (x y : A)
    → slice_get (slice_set xs n x) n ≡ Some y
    → y ≡ x
at_member [] zero x y e = cc
at_member [] (suc n) x y e = cc
at_member (z ∷ zs) zero x y e = cc
at_member (z ∷ zs) (suc n) x y e = at_member zs n x y e

pub off_member : {A : Type 0} (xs : List A) (n k : ℕ) (x : A) → k ≢ n
    → slice_get (slice_set xs n x) k ≡ slice_get xs k
off_member [] n k x other = refl
off_member (z ∷ zs) zero zero x other = absurd (other refl)
off_member (z ∷ zs) zero (suc k) x other = refl
off_member (z ∷ zs) (suc n) zero x other = refl
off_member (z ∷ zs) (suc n) (suc k) x other = off_member zs n k x (λ e. other (ap suc e))

module _ {T : Type 0} (fits : T → Key → List ℕ → Type 0) (cache : Cache T) where
  -- the first of the registers that are left holds a handle of the client
  pub first_holds : (client : Client T) (f : Filled) (fs : List Filled)
      → CanPlay fits cache client (f ∷ fs) → Holds client f.handle
  first_holds client f fs can =
      on_holds fits cache client f.handle (can.1.registers f.register)
      (on_register fits cache can.0 can.1 client (f ∷ fs) f.register f.handle
      (first_at f fs f.register refl) can.2)

  -- once it is given back, the others are left
  pub others_left : (old new : Client T) (f : Filled) (fs : List Filled) (freed : Bool)
      → CanPlay fits cache old (f ∷ fs) → Knows cache new
      → Releases cache f.handle false freed old new → CanPlay fits cache new fs
  others_left old new f fs freed can known released = (
    can.0,
    with_emptied can.1 f.register,
    subst (AreFilled fits cache can.0 (with_emptied can.1 f.register) new)
        (those_behind f fs can.2.once)
        (less_filled fits cache can.0 can.1 old new (f ∷ fs) f.register f.handle known
        released.works.self released.loses (first_at f fs f.register refl) can.2),
  )

  -- one register more was released
  pub let_one_more : (xs : List Filled) (f : Filled) (old mid new : Client T) (freed : Bool)
      → LetsGo fits cache xs old mid
      → GivesBack fits cache false false freed (Some f.handle) None mid new
      → LetsGo fits cache (xs ++ f ∷ []) old new
  let_one_more [] f old mid new freed so_far gives = (
    new,
    freed,
    subst (λ c. GivesBack fits cache false false freed (Some f.handle) None c new) so_far gives,
    refl,
  )
  let_one_more (x ∷ xs) f old mid new freed so_far gives = (
    so_far.0,
    so_far.1,
    so_far.2,
    let_one_more xs f so_far.0 mid new freed so_far.3 gives,
  )

  -- what a client did that let go, of those that were there first
  abbrev pub HasLetGo : (first : List (Client T)) → (kept : List Registers) → ℕ → Client T → Type 0
  HasLetGo first kept c last =
      (client : Client T) (held : Registers) → slice_get first c ≡ Some client
      → slice_get kept c ≡ Some held → LetsGo fits cache held.filled.items client last

  -- The clients below this number have let go of all that they held; the others may play.
  pub record LettingGo (n : ℕ) (first clients : List (Client T)) (kept : List Registers)
      : Type 0 where
    pub count : length clients ≡ length first
    pub alike : length kept ≡ length first
    pub before : (c : ℕ) (client : Client T) → c < n → slice_get clients c ≡ Some client
        → Knows cache client × (held_by client ≡ 0)
    pub did : (c : ℕ) (last : Client T) → c < n → slice_get clients c ≡ Some last
        → HasLetGo first kept c last
    pub same : (c : ℕ) → n ≤ c → slice_get clients c ≡ slice_get first c
    pub behind : (c : ℕ) (client : Client T) (held : Registers) → n ≤ c
        → slice_get clients c ≡ Some client → slice_get kept c ≡ Some held
        → CanPlay fits cache client held.filled.items

  -- one client more
  pub lets_go : (n : ℕ) (first clients clients' : List (Client T)) (kept : List Registers)
      (client : Client T) → LettingGo n first clients kept
      → clients' ≡ slice_set clients n client → length clients' ≡ length clients
      → Knows cache client → held_by client ≡ 0
      → HasLetGo first kept n client → LettingGo (n + 1) first clients' kept
  lets_go n first clients clients' kept client so_far here same known none went = record {
    count = same ∙ so_far.count;
    alike = so_far.alike;
    before = before;
    did = did;
    same = λ c within.
        let other : c ≢ n = λ e. absurd (omega (arith, e)) in
        ap (λ l. slice_get l c) here ∙ off_member clients n c client other
        ∙ so_far.same c (omega arith);
    behind = λ c one held within at holds.
        let other : c ≢ n = λ e. absurd (omega (arith, e)) in
        so_far.behind c one held (omega arith)
        (sym (off_member clients n c client other) ∙ rw here at at) holds;
  }
    where
      before : (c : ℕ) (one : Client T) → c < n + 1 → slice_get clients' c ≡ Some one
          → Knows cache one × (held_by one ≡ 0)
      before c one within at =
          elim (cases_eq c n) [
            | inl e ↦
                let told = rw (here, e) at at in
                let same : one ≡ client = at_member clients n client one told in
                rw same (known, none)
            | inr other ↦
                so_far.before c one (omega arith)
                (sym (off_member clients n c client other) ∙ rw here at at)
          ]

      did : (c : ℕ) (one : Client T) → c < n + 1 → slice_get clients' c ≡ Some one
          → HasLetGo first kept c one
      did c one within at =
          elim (cases_eq c n) [
            | inl e ↦
                let told = rw (here, e) at at in
                let same : one ≡ client = at_member clients n client one told in
                rw (same, e) went
            | inr other ↦
                so_far.did c one (omega arith)
                (sym (off_member clients n c client other) ∙ rw here at at)
          ]

  -- a cache whose clients have all let go is not refused its end
  pub not_refused : (error : CloseError) (clients : List (Client T))
      → cache.geometry.clients ≤ length clients
      → ((c : ℕ) (client : Client T) → slice_get clients c ≡ Some client → held_by client ≡ 0)
      → Refuses error cache clients → ⊥
  not_refused (Missing have want) clients enough none refused =
      let few = refused.0 in
      let many = refused.1 in
      let less = refused.2 in
      absurd (omega arith)
  not_refused (HandlesOut number) clients enough none refused =
      let holder = refused.1 in
      let zero_held = none holder.index holder.holder holder.there in
      let some = holder.holds in
      absurd (omega arith)
