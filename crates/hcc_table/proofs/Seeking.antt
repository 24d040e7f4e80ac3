-- What a seat does while it searches: step by step, and with what other clients do meanwhile.
use Rattle.std.proofs.Common.{◌≡◌, ℕ, ◌≤◌, Bool, true, List, [], ◌∷◌, ◌++◌, Option, Some, None, refl, sym, subst, ap, ◌∙◌}
use Rattle.std.specs.Prelude.{IfSome, IsSomeAnd}
use Rattle.std.proofs.lemmas.List.{append_assoc, append-nil}
use Rattle.hcc_core.specs.declared.event.Event.{Event}
use Rattle.hcc_rule.specs.declared.table.RuleTable.{RuleTable}
use Rattle.hcc_rule.specs.declared.view.Done.{Done}
use Rattle.hcc_rule.specs.declared.view.Record.{Record}
use Rattle.hcc_rule.specs.Acts.{IsNoStepOf, IsStepBy, past}
use Rattle.hcc_rule.specs.Callers.{IsEvent}
use Rattle.hcc_rule.specs.Events.{read_done}
use Rattle.hcc_rule.specs.Records.{record_in}
use Rattle.hcc_rule.specs.Seats.{SeatOf, view}
use Rattle.hcc_rule.specs.Views.{Each, names}
use Rattle.hcc_rule.proofs.Basics.Lists.{each_append}
use Rattle.hcc_table.specs.Seeking.{Does, GoesOnBy, Seeks, is_seeking}

module _ {T A : Type 0} (table : RuleTable T A) where
  module _ (kind : Event → Bool) where
    abbrev IsSo : Done → Type 0
    IsSo done = kind done.event ≡ true

    abbrev IsOwn : ℕ → Done → Type 0
    IsOwn c done = IsStepBy c done.event → kind done.event ≡ true

    -- nothing was done that is an event
    pub goes_quiet : {a b : SeatOf T} → past b ≡ past a → view b ≡ view a → GoesOnBy table kind a b
    goes_quiet {a} same saw = record {
      more = [];
      goes_on = same ∙ sym (append-nil (past a));
      own = λ c named. tt;
      named = λ c. ap (names c) saw;
      alone = λ one. tt;
    }

    -- nothing was done
    pub goes_none : (a b : SeatOf T) → b ≡ a → GoesOnBy table kind a b
    goes_none a b same = goes_quiet (ap past same) (ap view same)

    pub goes_then : (a b c : SeatOf T) → GoesOnBy table kind a b → GoesOnBy table kind b c
        → GoesOnBy table kind a c
    goes_then a b c h g = record {
      more = h.more ++ g.more;
      goes_on =
          g.goes_on ∙ ap (λ xs. xs ++ g.more) h.goes_on ∙ append_assoc (past a) h.more g.more;
      own = λ c named.
          each_append (IsOwn c) h.more g.more (h.own c named)
          (g.own c (subst (λ n. 1 ≤ n) (sym (h.named c)) named));
      named = λ c. g.named c ∙ h.named c;
      alone = λ one. each_append IsSo h.more g.more (h.alone one) (g.alone one);
    }

    not_own : (c : ℕ) (ds : List Done) → Each (IsNoStepOf c) ds → Each (IsOwn c) ds
    not_own c [] apart = tt
    not_own c (d ∷ ds) apart =
        ((λ by. absurd (apart.0 by.0 by.1)), not_own c ds apart.1)

    -- what a seat's own event adds
    pub goes_event : (done : Done) (a b : SeatOf T) → IsEvent table done a b
        → kind done.event ≡ true → GoesOnBy table kind a b
    goes_event done a b event so = record {
      more = event.0.others ++ done ∷ [];
      goes_on = event.0.past;
      own = λ c named.
          each_append (IsOwn c) event.0.others (done ∷ [])
          (not_own c event.0.others (event.0.apart c named)) ((λ by. so), tt);
      named = event.0.named;
      alone = λ one.
          subst (λ os. Each IsSo (os ++ done ∷ [])) (sym (event.0.alone one)) (so, tt);
    }

  -- events of one kind are events of a wider one
  pub goes_wider : (kind wider : Event → Bool)
      → ((event : Event) → kind event ≡ true → wider event ≡ true)
      → (a b : SeatOf T) → GoesOnBy table kind a b → GoesOnBy table wider a b
  goes_wider kind wider widens a b h = record {
    more = h.more;
    goes_on = h.goes_on;
    own = λ c named. own c h.more (h.own c named);
    named = h.named;
    alone = λ one. all h.more (h.alone one);
  }
    where
      own : (c : ℕ) (ds : List Done) → Each (IsOwn kind c) ds → Each (IsOwn wider c) ds
      own c [] only = tt
      own c (d ∷ ds) only = ((λ by. widens d.event (only.0 by)), own c ds only.1)

      all : (ds : List Done) → Each (IsSo kind) ds → Each (IsSo wider) ds
      all [] only = tt
      all (d ∷ ds) only = (widens d.event only.0, all ds only.1)

  -- nothing was done
  pub seeks_none : (a : SeatOf T) → Seeks table a a
  seeks_none a = record { own = []; does = refl; only = tt }

  -- one event of a search
  pub seeks_one : (done : Done) (a b : SeatOf T) → IsEvent table done a b
      → is_seeking done.event ≡ true → Seeks table a b
  seeks_one done a b event seeking =
      record { own = done ∷ []; does = (b, event, refl); only = (seeking, tt) }

  pub does_then : (xs ys : List Done) (a b c : SeatOf T) → Does table xs a b → Does table ys b c
      → Does table (xs ++ ys) a c
  does_then [] ys a b c same more = subst (λ z. Does table ys z c) same more
  does_then (x ∷ xs) ys a b c does more =
      (does.0, does.1, does_then xs ys does.0 b c does.2 more)

  -- one search and then another
  pub seeks_then : (a b c : SeatOf T) → Seeks table a b → Seeks table b c → Seeks table a c
  seeks_then a b c h g = record {
    own = h.own ++ g.own;
    does = does_then h.own g.own a b c h.does g.does;
    only = each_append (λ (done : Done). is_seeking done.event ≡ true) h.own g.own h.only g.only;
  }

  -- four of them
  pub seeks_four : {a b c d e : SeatOf T} → Seeks table a b → Seeks table b c → Seeks table c d
      → Seeks table d e → Seeks table a e
  seeks_four {a} {b} {c} {d} {e} first second third fourth =
      seeks_then a c e (seeks_then a b c first second) (seeks_then c d e third fourth)

  -- a read of the entry that the record of a name is on
  pub seeks_read : (name : ℕ) (P : Record → Type 0) {a b : SeatOf T}
      → IsSomeAnd (record_in name (view a).records) P
      → IfSome (record_in name (view a).records)
      (λ r. IsEvent table (read_done name r.entry (view a)) a b)
      → Seeks table a b
  seeks_read name P {a} {b} = by (record_in name (view a).records)
    where
      by : (o : Option Record) → IsSomeAnd o P
          → IfSome o (λ r. IsEvent table (read_done name r.entry (view a)) a b) → Seeks table a b
      by None holds event = absurd holds
      by (Some r) holds event = seeks_one _ a b event refl
