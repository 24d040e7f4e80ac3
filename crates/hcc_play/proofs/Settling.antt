-- What options give is one setup, or none.
use Rattle.std.proofs.Common.{◌≡◌, ◌∙◌, ◌&&◌, ◌≤◌, ap, ap₂, sym, ℕ, Bool, true, false, List, Option}
use Rattle.std.proofs.Common.{Some, None, arith, leb-true, nat_le}
use Rattle.std.specs.Prelude.{unwrap_or}
use Rattle.clap.proofs.WalkLemmas.{both}
use Rattle.clap.specs.Words.{Row}
use Rattle.hcc_cache.specs.Configs.{is_within}
use Rattle.hcc_core.specs.Opening.{CanOpen}
use Rattle.hcc_core.specs.declared.limits.TheConstants.{MOST_CLIENTS}
use Rattle.hcc_core.specs.declared.setup.Setup.{Setup}
use Rattle.hcc_play.specs.Settings.{CanPlay, GivesSetup, is_played}
use Rattle.hcc_play.specs.declared.cli.TheConstants.{PLAYED_SLOTS, PLAYED_CAPACITY}

-- a number that isn't there
pub absent : (known : Option ℕ) (n : ℕ) → None ≡ known → known ≡ Some n → ⊥
absent known n none some = cc

within : (least most n : ℕ) → is_within least most n ≡ true → (least ≤ n) × (n ≤ most)
within least most n e =
    let parts = both _ _ e in
    (leb-true _ _ parts.0, leb-true _ _ parts.1)

pub opens : (setup : Setup) → CanPlay setup → CanOpen setup
opens setup can =
    let outer = both _ _ can in
    let inner = both _ _ outer.0 in
    let slots = within 1 PLAYED_SLOTS setup.slots inner.0 in
    let clients = within 1 MOST_CLIENTS setup.clients inner.1 in
    let capacity = leb-true setup.capacity PLAYED_CAPACITY outer.1 in
    record {
      some_slot = slots.0;
      slots = omega (arith, slots.1);
      some_client = clients.0;
      clients = clients.1;
      capacity = omega (arith, capacity);
    }

one_number : (known : Option ℕ) (m n : ℕ) → known ≡ Some m → known ≡ Some n → m ≡ n
one_number known m n first second = ap (λ (o : Option ℕ). unwrap_or o m) (sym first ∙ second)

-- the numbers of one setup are in their ranges where those of another are
pub plays_too : (rows : List Row) (a b : Setup) → GivesSetup rows a → GivesSetup rows b
    → is_played a ≡ is_played b
plays_too rows a b first second =
    let slots = one_number _ _ _ first.slots second.slots in
    let clients = one_number _ _ _ first.clients second.clients in
    let capacity = one_number _ _ _ first.capacity second.capacity in
    ap₂ (λ (s t : Bool). s && t)
    (ap₂ (λ (m n : ℕ). is_within 1 PLAYED_SLOTS m && is_within 1 MOST_CLIENTS n) slots clients)
    (ap (λ (n : ℕ). nat_le n PLAYED_CAPACITY) capacity)

-- a setup that isn't played is no other's
pub not_played : (rows : List Row) (a : Setup) → GivesSetup rows a → is_played a ≡ false
    → (b : Setup) → GivesSetup rows b × CanPlay b → ⊥
not_played rows a first never b h =
    let same = plays_too rows a b first h.0 in
    let yes = h.1 in
    cc
