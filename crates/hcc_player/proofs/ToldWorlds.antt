-- Keys that a world shows or doesn't, and what leaves that so.
use Rattle.std.proofs.Common.{◌≡◌, inl, inr, ℕ, zero, suc, ◌&&◌, ◌<◌, ◌≤◌, Bool, true, false, Option, Some, None, sym, refl, ap, ◌∙◌, subst, arith, ◌⊎◌}
use Rattle.std.specs.Prelude.{IsSomeAnd, is_some, option_and_then, if◌then◌else◌}
use Rattle.std.proofs.lemmas.Bool.{cases_eq, eq-eqb, true≢false}
use Rattle.std.proofs.lemmas.Option.{same_Some}
use Rattle.hcc_core.specs.declared.slot.Entry.{Entry}
use Rattle.hcc_core.specs.declared.slot.Slot.{Slot}
use Rattle.hcc_core.specs.declared.slot.Slot.TheVariants as slots
use Rattle.hcc_core.specs.Runs.{entry_held}
use Rattle.hcc_core.specs.Sums.{when}
use Rattle.hcc_core.specs.World.{State}
use Rattle.hcc_rule.specs.declared.key.Key.{Key}
use Rattle.hcc_rule.specs.Callers.{clients_of, world_at}
use Rattle.hcc_rule.specs.Words.{key_of}
use Rattle.hcc_table.specs.Searched.{is_key}
use Rattle.hcc_table.specs.Standing.{HidesShown, InsertsShown, ShowsKey, ShowsMore, ShowsSame}
use Rattle.hcc_table.specs.Standing.{counts_shown, entry_shown, shown_at, shown_of}
use Rattle.hcc_table.specs.Still.{ShowsBut}
use Rattle.hcc_table.proofs.HidesAlone.{key_equal, settled_keeps}
use Rattle.hcc_table.proofs.Releases.{releases_show}
use Rattle.hcc_shard.specs.declared.seat.ShardSeat.{ShardSeat}
use Rattle.hcc_shard.specs.declared.shard.Shard.{Shard}
use Rattle.hcc_shard.specs.Reserving.{left_out}
use Rattle.hcc_shard.specs.Stays.{ReleasesAt}
use Rattle.hcc_cache.specs.Clients.{Held}
use Rattle.hcc_cache.specs.Keys.{key_from}
use Rattle.hcc_cache.specs.Sharding.{key_to}
use Rattle.hcc_cache.proofs.Searches.ReadByHandle.{key_back}
use Rattle.hcc_player.specs.RunAlone.{ShowsNone}
use Rattle.hcc_player.specs.RunCalls.{IsOfWords}
use Rattle.hcc_player.specs.RunTold.{Keys, only_gone, with_freed, with_told}
use Rattle.hcc_player.proofs.HeldCharges.{entry_by}

-- Keys.

key_self : (a : Key) → is_key a a ≡ true
key_self a = λ k. eq-eqb a.w0 a.w0 refl k && eq-eqb a.w1 a.w1 refl k

off_key : (a b : Key) → is_key a b ≡ false → ¬ (a ≡ b)
off_key a b off same =
    true≢false (sym (subst (λ k. is_key a k ≡ true) same (key_self a)) ∙ off)

-- keys of words are apart under a seed
pub same_key : (seed : ℕ) (a b : Key) → IsOfWords a → IsOfWords b
    → key_to seed a ≡ key_to seed b → a ≡ b
same_key seed a b x y same =
    sym (key_back seed a x.0 x.1) ∙ ap (key_from seed) same ∙ key_back seed b y.0 y.1

-- What is told.

-- where one key is told so, that is told of it, and of each other what was
pub told_cases : (key other : Key) (is b : Bool) (keys : Keys)
    → with_told key is keys other ≡ Some b
    → ((key ≡ other) × (is ≡ b)) ⊎ ((¬ (key ≡ other)) × (keys other ≡ Some b))
told_cases key other is b keys h = by (is_key key other) refl h
  where
    by : (t : Bool) → is_key key other ≡ t → (if t then Some is else keys other) ≡ Some b
        → ((key ≡ other) × (is ≡ b)) ⊎ ((¬ (key ≡ other)) × (keys other ≡ Some b))
    by true same h = inl (sym (key_equal key other same), same_Some _ _ h)
    by false apart h = inr (off_key key other apart, h)

gone_only : (o : Option Bool) (b : Bool) → only_gone o ≡ Some b
    → (b ≡ false) × (o ≡ Some b)
gone_only None b is = cc
gone_only (Some true) b is = cc
gone_only (Some false) b is = (sym (same_Some _ _ is), is)

-- the key of an entry of the table for which a handle stands, if it is one
abbrev pub key_by : Held → Option Key
key_by held = if is_some held.standing then None else Some held.insertion.key

-- where an entry of a key was freed, no more is told than was, and of the key not that it's there
pub told_freed : (held : Option Key) (other : Key) (b : Bool) (keys : Keys)
    → with_freed held keys other ≡ Some b
    → (keys other ≡ Some b) × (b ≡ true → ¬ (held ≡ Some other))
told_freed None other b keys h = (h, λ there same. cc)
told_freed (Some key) other b keys h = by (is_key key other) refl h
  where
    by : (t : Bool) → is_key key other ≡ t
        → (if t then only_gone (keys other) else keys other) ≡ Some b
        → (keys other ≡ Some b) × (b ≡ true → ¬ (Some key ≡ Some other))
    by true same h =
        let gone = gone_only (keys other) b h in
        (gone.1, λ there is. true≢false (sym there ∙ gone.0))
    by false apart h = (h, λ there is. off_key key other apart (same_Some _ _ is))

-- Worlds.

-- a world shows the key in one of its slots
abbrev pub ShowsSome : (slots : ℕ) → Key → State → Type 0
ShowsSome slots key world = (slot : ℕ) × (slot < slots) × ShowsKey world key slot

-- it shows the key, or doesn't
abbrev pub shows_by : Bool → (slots : ℕ) → Key → State → Type 0
shows_by true slots key world = ShowsSome slots key world
shows_by false slots key world = ShowsNone slots key world

pub shows_too : (key : Key) (slot : ℕ) (w v : State) → shown_at v slot ≡ shown_at w slot
    → ShowsKey w key slot → ShowsKey v key slot
shows_too key slot w v same shows = subst (λ o. IsSomeAnd o (λ e. key_of e ≡ key)) (sym same) shows

-- where each slot shows what it showed
pub by_same : (b : Bool) (slots : ℕ) (key : Key) (w v : State)
    → ((s : ℕ) → s < slots → shown_at v s ≡ shown_at w s)
    → shows_by b slots key w → shows_by b slots key v
by_same true slots key w v same h = (h.0, h.1, shows_too key h.0 w v (same h.0 h.1) h.2)
by_same false slots key w v same h =
    λ s less shows. h s less (shows_too key s v w (sym (same s less)) shows)

-- a slot shows one key
one_key : (o : Option Entry) (a b : Key) → IsSomeAnd o (λ e. key_of e ≡ a)
    → IsSomeAnd o (λ e. key_of e ≡ b) → a ≡ b
one_key None a b h g = absurd h
one_key (Some e) a b h g = sym h ∙ g

-- it does or doesn't
shows_or : (key : Key) (o : Option Entry)
    → IsSomeAnd o (λ e. key_of e ≡ key) ⊎ (¬ IsSomeAnd o (λ e. key_of e ≡ key))
shows_or key None = inr (λ shows. shows)
shows_or key (Some e) = by (is_key key (key_of e)) refl
  where
    by : (b : Bool) → is_key key (key_of e) ≡ b → (key_of e ≡ key) ⊎ (¬ (key_of e ≡ key))
    by true same = inl (key_equal key (key_of e) same)
    by false off = inr (λ same. off_key key (key_of e) off (sym same))

-- where a slot came to show another key
pub by_more : (b : Bool) (slots size : ℕ) (under other : Key) (slot : ℕ) (w v : State)
    → ShowsMore size under slot w v → ¬ (under ≡ other)
    → shows_by b slots other w → shows_by b slots other v
by_more true slots size under other slot w v h apart g =
    (g.0, g.1, shows_too other g.0 w v (h.others g.0 off) g.2)
  where
    off : ¬ (g.0 ≡ slot)
    off here =
        subst (λ o. IsSomeAnd o (λ e. key_of e ≡ other)) (ap (shown_at w) here ∙ h.free) g.2
by_more false slots size under other slot w v h apart g =
    λ s less shows. elim (cases_eq s slot) [
      | inl here ↦
          apart (one_key (shown_at v slot) under other h.shows
          (subst (λ n. ShowsKey v other n) here shows))
      | inr off ↦ g s less (shows_too other s v w (sym (h.others s off)) shows)
    ]

-- where an entry was left out
pub out_same : (matched : Bool) (slots : ℕ) (key : Key) (w v : State)
    → InsertsShown slots key (left_out matched) w v → ShowsSame w v
out_same true slots key w v h = h.4
out_same false slots key w v h = h.1

-- a slot that shows the key counts
counts_one : (key : Key) (o : Option Entry) → IsSomeAnd o (λ e. key_of e ≡ key)
    → counts_shown key o ≡ 1
counts_one key None asked = absurd asked
counts_one key (Some e) asked =
    ap (λ z. when (is_key key z) 1) asked ∙ ap (λ b. when b 1) (key_self key)

pub shown_some : (n : ℕ) (key : Key) (w : State) (slot : ℕ) → slot < n → ShowsKey w key slot
    → 1 ≤ shown_of n key w
shown_some zero key w slot less shows = absurd (omega arith)
shown_some (suc n) key w slot less shows = elim (cases_eq slot n) [
  | inl here ↦
      let one : counts_shown key (shown_at w n) ≡ 1 =
      counts_one key (shown_at w n) (subst (λ s. ShowsKey w key s) here shows) in
      omega arith
  | inr other ↦
      let some : 1 ≤ shown_of n key w = shown_some n key w slot (omega arith) shows in
      omega arith
]

-- where slots show what they showed, or nothing
pub by_less : (slots : ℕ) (key : Key) (w v : State)
    → ((s : ℕ) → (shown_at v s ≡ shown_at w s) ⊎ (shown_at v s ≡ None))
    → ShowsNone slots key w → ShowsNone slots key v
by_less slots key w v less h = λ s within shows. elim (less s) [
  | inl same ↦ h s within (shows_too key s v w (sym same) shows)
  | inr none ↦ subst (λ o. IsSomeAnd o (λ e. key_of e ≡ key)) none shows
]

-- where all that showed another key was hidden
pub by_hides : (b : Bool) (slots count : ℕ) (under other : Key) (w v : State)
    → HidesShown slots under count w v → ¬ (under ≡ other)
    → shows_by b slots other w → shows_by b slots other v
by_hides true slots count under other w v h apart g = (
  g.0,
  g.1,
  shows_too other g.0 w v
      (h.others g.0 (λ shows. apart (one_key (shown_at w g.0) under other shows g.2))) g.2,
)
by_hides false slots count under other w v h apart g =
    by_less slots other w v (λ s. elim (shows_or under (shown_at w s)) [
      | inl shows ↦ inr (h.gone s shows)
      | inr lacks ↦ inl (h.others s lacks)
    ]) g

-- as a release leaves them
but_less : (slot : ℕ) (freed : Option ℕ) (w v : State) → ShowsBut slot freed w v
    → (s : ℕ) → (shown_at v s ≡ shown_at w s) ⊎ (shown_at v s ≡ None)
but_less slot None w v h s = elim (cases_eq s slot) [
  | inl here ↦ inl (subst (λ n. shown_at v n ≡ shown_at w n) (sym here) h.kept)
  | inr other ↦ inl (h.others s other)
]
but_less slot (Some charge) w v h s = elim (cases_eq s slot) [
  | inl here ↦ inr (ap (shown_at v) here ∙ h.gone)
  | inr other ↦ inl (h.others s other)
]

-- what a release leaves of the other slots
pub release_others : {T A : Type 0} (shard : Shard T A) (slot name : ℕ) (used erase freed : Bool)
    (old new : ShardSeat T) → ReleasesAt shard slot name true used erase freed old new
    → clients_of shard.table ≡ 1 → (s : ℕ) → ¬ (s ≡ slot)
    → shown_at (world_at shard.table new.seat) s ≡ shown_at (world_at shard.table old.seat) s
release_others shard slot name used erase freed old new h one s other =
    settled_keeps shard.table one h.mid new.seat h.settles s
    ∙ (releases_show shard.table one slot name true used erase h.charge old.seat h.mid
    h.releases).others s other

-- what a slot shows on which a client holds an entry is that entry
pub held_shown : (client name : ℕ) (key : Key) (e : Entry) (o : Option Slot)
    → option_and_then (entry_held client name) o ≡ Some e
    → IsSomeAnd (option_and_then entry_shown o) (λ f. key_of f ≡ key) → key_of e ≡ key
held_shown client name key e None held shows = cc
held_shown client name key e (Some (slots.Empty strays)) held shows = absurd shows
held_shown client name key e (Some (slots.Building owner strays)) held shows = absurd shows
held_shown client name key e (Some (slots.Shareable r)) held shows =
    by r.shown shows (same_Some _ _ (entry_by client name (slots.Shareable r) e held))
  where
    by : (b : Bool) → IsSomeAnd (if b then Some r.entry else None) (λ f. key_of f ≡ key)
        → r.entry ≡ e → key_of e ≡ key
    by true shows same = ap key_of (sym same) ∙ shows
    by false shows same = absurd shows

-- where slots show what they showed, or nothing, as a release leaves them
pub release_less : {T A : Type 0} (shard : Shard T A) (slot name : ℕ) (used erase freed : Bool)
    (old new : ShardSeat T) → ReleasesAt shard slot name true used erase freed old new
    → clients_of shard.table ≡ 1 → (s : ℕ)
    → (shown_at (world_at shard.table new.seat) s ≡ shown_at (world_at shard.table old.seat) s)
    ⊎ (shown_at (world_at shard.table new.seat) s ≡ None)
release_less shard slot name used erase freed old new h one s =
    let settled = settled_keeps shard.table one h.mid new.seat h.settles s in
    let shows = releases_show shard.table one slot name true used erase h.charge old.seat h.mid
    h.releases in
    elim (but_less slot h.charge (world_at shard.table old.seat) (world_at shard.table h.mid) shows
    s) [
      | inl same ↦ inl (settled ∙ same)
      | inr none ↦ inr (settled ∙ none)
    ]
