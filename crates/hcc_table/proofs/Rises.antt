-- Rises of counts, one after the other.
use Rattle.std.proofs.Common.{◌≡◌, ℕ, ◌+◌, ◌≤◌, sym, ap, subst, ◌∙◌, arith}
use Rattle.hcc_table.specs.declared.efforts.Effort.{Effort}
use Rattle.hcc_table.specs.Efforts.{Took}
use Rattle.hcc_table.specs.Rises.{Rose}

-- one rise after another
pub rose_then : (a b c d e f old between new : ℕ) → Rose a b old between → Rose c d between new
    → e ≡ a + c → f ≡ b + d → Rose e f old new
rose_then a b c d e f old between new h g least most =
    let h0 = h.0 in
    let h1 = h.1 in
    let h2 = h.2 in
    let g0 = g.0 in
    let g1 = g.1 in
    let g2 = g.2 in
    (omega arith, λ low. omega arith, omega arith)

-- less is told of it
pub rose_within : {a b c d old new : ℕ} → c ≤ a → b ≤ d → Rose a b old new → Rose c d old new
rose_within less more h =
    let h1 = h.1 in
    let h2 = h.2 in
    (h.0, λ low. omega arith, omega arith)

-- nothing was done
pub took_none : (effort : Effort) → Took 0 0 0 effort effort
took_none effort = (
  (omega arith, λ low. omega arith, omega arith),
  (omega arith, λ low. omega arith, omega arith),
  (omega arith, λ low. omega arith, omega arith),
)

-- One slot more was visited, and so many exchanges were made there.
pub took_next : (i tries more all : ℕ) {old was now : Effort} (then : Effort)
    → Took i i tries old was
    → Rose 1 1 was.probes now.probes → now.corrections ≡ was.corrections → now.lost ≡ was.lost
    → Took 0 0 more now then → all ≡ tries + more → Took (i + 1) (i + 1) all old then
took_next i tries more all {old} {was} {now} then h probe corrections lost g sum = (
  rose_then i i 1 1 (i + 1) (i + 1) old.probes was.probes then.probes h.0
      (rose_then 1 1 0 0 1 1 was.probes now.probes then.probes probe g.0 (omega arith)
      (omega arith)) (omega arith) (omega arith),
  rose_then 0 tries 0 more 0 all old.corrections was.corrections then.corrections h.1
      (rw (← corrections) g.1) (omega arith) sum,
  rose_then 0 tries 0 more 0 all old.lost was.lost then.lost h.2
      (rw (← lost) g.2) (omega arith) sum,
)

pub took_within : {i tries least slots most : ℕ} {old new : Effort} → least ≤ i → i ≤ slots
    → tries ≤ most → Took i i tries old new → Took least slots most old new
took_within {i} {tries} {least} {slots} {most} {old} {new} some few short h = (
  rose_within some few h.0,
  rose_within (omega arith) short h.1,
  rose_within (omega arith) short h.2,
)

-- one search of slots after another, neither of which counted its slots
pub took_then : (tries more : ℕ) {all : ℕ} {old was now : Effort} → Took 0 0 tries old was
    → Took 0 0 more was now → all ≡ tries + more → Took 0 0 all old now
took_then tries more {all} {old} {was} {now} h g sum = (
  rose_then 0 0 0 0 0 0 old.probes was.probes now.probes h.0 g.0 (omega arith) (omega arith),
  rose_then 0 tries 0 more 0 all old.corrections was.corrections now.corrections h.1 g.1
      (omega arith) sum,
  rose_then 0 tries 0 more 0 all old.lost was.lost now.lost h.2 g.2 (omega arith) sum,
)

-- The slots that were visited are counted at the end.
pub counted_probes : (visited tries : ℕ) {old was : Effort} (now : Effort) → Took 0 0 tries old was
    → Rose visited visited was.probes now.probes → Rose visited visited old.probes now.probes
counted_probes visited tries {old} {was} now h probes =
    rose_then 0 0 visited visited visited visited old.probes was.probes now.probes h.0 probes
    (omega arith) (omega arith)

pub took_probes : (visited tries : ℕ) {slots : ℕ} {old was now : Effort} → Took 0 0 tries old was
    → Rose visited visited was.probes now.probes → now.corrections ≡ was.corrections
    → now.lost ≡ was.lost → 1 ≤ visited → visited ≤ slots → tries ≤ slots
    → Took 1 slots slots old now
took_probes visited tries {slots} {old} {was} {now} h probes corrections lost some few short = (
  rose_within some few (counted_probes visited tries now h probes),
  rw corrections (rose_within (omega arith) short h.1),
  rw lost (rose_within (omega arith) short h.2),
)

-- So it is where no exchange was tried.
pub took_visited : (visited slots : ℕ) {old was now : Effort} → was ≡ old
    → Rose visited visited was.probes now.probes → now.corrections ≡ was.corrections
    → now.lost ≡ was.lost → 1 ≤ visited → visited ≤ slots
    → Took 1 slots 0 old now × Rose visited visited old.probes now.probes
took_visited visited slots {old} {was} {now} same probes corrections lost some few =
    let counted = counted_probes visited 0 now (subst (Took 0 0 0 old) (sym same) (took_none old))
    probes in
    let first : now.corrections ≡ old.corrections =
    corrections ∙ ap (λ (e : Effort). e.corrections) same in
    let second : now.lost ≡ old.lost = lost ∙ ap (λ (e : Effort). e.lost) same in (
      (
        rose_within some few counted,
        (omega arith, λ low. omega arith, omega arith),
        (omega arith, λ low. omega arith, omega arith),
      ),
      counted,
    )
