-- A trace that is played line by line: the answers so far are right, and can be followed by right
-- answers to the lines that are left.
use Rattle.std.proofs.Common.{◌≡◌, ℕ, ◌<◌, ◌⊎◌, inl, inr, true, false, Bool, List, []}
use Rattle.std.proofs.Common.{◌∷◌, ◌++◌, Option, Some, None, refl, sym, ap, ◌∙◌, subst}
use Rattle.std.proofs.Common.{append_assoc}
use Rattle.std.proofs.lemmas.Bool.{cases_lt}
use Rattle.hcc_rule.specs.declared.key.Key.{Key}
use Rattle.hcc_cache.specs.declared.config.Config.{Config}
use Rattle.hcc_cache.specs.declared.errors.InsertError.{InsertError}
use Rattle.hcc_cache.specs.declared.errors.InsertError.TheVariants as errors
use Rattle.hcc_cache.specs.Clients.{Insertion}
use Rattle.hcc_cache.specs.Configs.{shard_capacity}
use Rattle.hcc_player.specs.declared.run.answer.Answer.{Answer}
use Rattle.hcc_player.specs.declared.run.answer.Answer.TheVariants as answers
use Rattle.hcc_player.specs.declared.run.call.Call.{Call}
use Rattle.hcc_player.specs.declared.run.call.Call.TheVariants as calls
use Rattle.hcc_player.specs.declared.run.call.RunLine.{RunLine}
use Rattle.hcc_player.specs.RunAnswers.{IsRight, AreRight, answer_line, answers_text}
use Rattle.hcc_player.specs.RunStates.{IsRefused, MayHold, MayInsert, RefusesInsert, RefusesPin}
use Rattle.hcc_player.specs.RunStates.{State, States, with_emptied, with_filled, with_serial}
use Rattle.hcc_player.specs.RunStates.{with_state}
use Rattle.hcc_player.proofs.BoundedStates.{IsBounded, bounded_emptied, bounded_filled, bounded_with}
use Rattle.hcc_player.proofs.BoundedStates.{charge_bound, covers_bounded, entries_bounded}

-- Texts.

pub answers_more : (told more : List Answer)
    → answers_text (told ++ more) ≡ answers_text told ++ answers_text more
answers_more [] more = refl
answers_more (a ∷ told) more =
    ap (λ t. answer_line a ++ t) (answers_more told more)
    ∙ sym (append_assoc (answer_line a) (answers_text told) (answers_text more))

module _ (Puts : Key → List ℕ → Type 0) (config : Config) where
  -- right answers to lines, and then to more
  pub right_more : (old mid new : States) (front rest : List RunLine) (told more : List Answer)
      → AreRight Puts config old front told mid → AreRight Puts config mid rest more new
      → AreRight Puts config old (front ++ rest) (told ++ more) new
  right_more old mid new [] rest [] more right then =
      subst (λ s. AreRight Puts config s rest more new) right then
  right_more old mid new [] rest (a ∷ told) more right then = absurd right
  right_more old mid new (l ∷ front) rest [] more right then = absurd right
  right_more old mid new (l ∷ front) rest (a ∷ told) more right then = (
    right.0,
    right.1,
    right_more (with_state old l.client right.0) mid new front rest told more right.2 then,
  )

  -- and to one line more
  pub right_one : (old mid : States) (front : List RunLine) (told : List Answer) (line : RunLine)
      (answer : Answer) (next : State) → AreRight Puts config old front told mid
      → IsRight Puts config (mid line.client) line.call answer next
      → AreRight Puts config old (front ++ line ∷ []) (told ++ answer ∷ [])
      (with_state mid line.client next)
  right_one old mid front told line answer next right here =
      right_more old mid (with_state mid line.client next) front (line ∷ []) told (answer ∷ [])
      right (next, here, refl)

  -- Right answers to the lines that are left.

  -- a right answer to a call
  record Choice (s : State) (call : Call) : Type 0 where
    answer : Answer
    next : State
    right : IsRight Puts config s call answer next
    bounded : IsBounded next

  -- what is told of a handle that may be given, or not
  look_choice : (s : State) → MayHold config s ⊎ ((error : InsertError) × IsRefused config error s)
  look_choice s =
      elim (cases_lt s.full config.handles) [
        | inl room ↦
            elim (cases_lt s.used config.serials) [
              | inl some ↦ inl (room, some)
              | inr none ↦ inr (errors.Spent, (room, none))
            ]
        | inr full ↦ inr (errors.HandlesFull, full)
      ]

  -- and of an insertion
  abbrev InsertRefusal : State → ℕ → Type 0
  InsertRefusal s charge = (error : InsertError) × RefusesInsert config charge error s s

  strict_choice : (s : State) (charge : ℕ) (strict : Bool) → config.strict ≡ strict
      → s.used < config.serials → MayInsert config s charge ⊎ InsertRefusal s charge
  strict_choice s charge false is some =
      inl (some, λ strict. let no : true ≡ false = sym strict ∙ is in cc)
  strict_choice s charge true is some =
      elim (cases_lt (shard_capacity config) charge) [
        | inl over ↦ inr (errors.TooLarge, (some, is, over, refl))
        | inr small ↦ inl (some, λ strict. small)
      ]

  insert_choice : (s : State) (charge : ℕ) → MayInsert config s charge ⊎ InsertRefusal s charge
  insert_choice s charge =
      elim (cases_lt s.used config.serials) [
        | inl some ↦ strict_choice s charge config.strict refl some
        | inr none ↦ inr (errors.Spent, (none, refl))
      ]

  refuses_pin : (s : State) (charge : ℕ) (error : InsertError) → s.full < config.handles
      → RefusesInsert config charge error s s → RefusesPin config charge error s s
  refuses_pin s charge errors.HandlesFull room refused = absurd refused
  refuses_pin s charge errors.Spent room refused = (room, refused)
  refuses_pin s charge errors.TooLarge room refused = (room, refused)
  refuses_pin s charge errors.CapacityFull room refused = (room, refused)
  refuses_pin s charge errors.OccupancyFull room refused = (room, refused)

  pin_choice : (s : State) (b : IsBounded s) (r : ℕ) (k : Key) (t : ℕ) (q : _) (v : List ℕ)
      (x : Option Insertion) → s.registers r ≡ x → Choice s (calls.Pin r k t q v)
  unfolding IsRight
  pin_choice s b r k t q v (Some held) e =
      record { answer = answers.Busy; next = s; right = (rw e refl, refl); bounded = b }
  pin_choice s b r k t q v None e =
      elim (cases_lt s.full config.handles) [
        | inl room ↦
            elim (insert_choice s t) [
              | inl may ↦ record {
                answer = answers.Standalone;
                next = with_filled s r (record { key = k; value = v; charge = t }) true;
                right = (e, (room, may, refl));
                bounded = bounded_filled s r _ true b;
              }
              | inr refused ↦ record {
                answer = answers.Refused refused.0;
                next = s;
                right = (e, refuses_pin s t refused.0 room refused.1);
                bounded = b;
              }
            ]
        | inr full ↦ record {
          answer = answers.Refused errors.HandlesFull;
          next = s;
          right = (e, (full, refl));
          bounded = b;
        }
      ]

  lookup_choice : (s : State) (b : IsBounded s) (r : ℕ) (k : Key) (x : Option Insertion)
      → s.registers r ≡ x → Choice s (calls.Lookup r k)
  unfolding IsRight
  lookup_choice s b r k (Some held) e =
      record { answer = answers.Busy; next = s; right = (rw e refl, refl); bounded = b }
  lookup_choice s b r k None e =
      elim (look_choice s) [
        | inl may ↦ record {
          answer = answers.Miss;
          next = s;
          right = (e, may, refl);
          bounded = b;
        }
        | inr refused ↦ record {
          answer = answers.Refused refused.0;
          next = s;
          right = (e, refused.1, refl);
          bounded = b;
        }
      ]

  reref_choice : (s : State) (b : IsBounded s) (r g : ℕ) (x y : Option Insertion)
      → s.registers r ≡ x → s.registers g ≡ y → Choice s (calls.Reref r g)
  unfolding IsRight
  reref_choice s b r g (Some held) y e f =
      record { answer = answers.Busy; next = s; right = (rw e refl, refl); bounded = b }
  reref_choice s b r g None None e f =
      record { answer = answers.Nothing; next = s; right = (e, f, refl); bounded = b }
  reref_choice s b r g None (Some held) e f =
      elim (look_choice s) [
        | inl may ↦ record {
          answer = answers.Held;
          next = with_filled s r held (s.alone g);
          right = (e, may, (held, f, refl));
          bounded = bounded_filled s r held (s.alone g) b;
        }
        | inr refused ↦ record {
          answer = answers.Refused refused.0;
          next = s;
          right = (e, rw f refl, refused.1, refl);
          bounded = b;
        }
      ]

  release_choice : (s : State) (b : IsBounded s) (r : ℕ) (u e : Bool) (x : Option Insertion)
      → s.registers r ≡ x → Choice s (calls.Release r u e)
  unfolding IsRight
  release_choice s b r u e None f =
      record { answer = answers.Nothing; next = s; right = (f, refl); bounded = b }
  release_choice s b r u e (Some held) f =
      record {
        answer = answers.Kept;
        next = with_emptied s r;
        right = (rw f refl, refl);
        bounded = bounded_emptied s r b;
      }

  value_choice : (s : State) (b : IsBounded s) (r : ℕ) (x : Option Insertion) → s.registers r ≡ x
      → Choice s (calls.Value r)
  unfolding IsRight
  value_choice s b r None e =
      record { answer = answers.Nothing; next = s; right = (e, refl); bounded = b }
  value_choice s b r (Some held) e =
      record {
        answer = answers.Value held.value;
        next = s;
        right = ((held, e, refl), refl);
        bounded = b;
      }

  put_choice : (s : State) (b : IsBounded s) (k : Key) (t : ℕ) (q : _) (v : List ℕ)
      → Choice s (calls.Insert k t q v)
  unfolding IsRight
  put_choice s b k t q v =
      elim (insert_choice s t) [
        | inl may ↦ record {
          answer = answers.Dropped;
          next = with_serial s;
          right = (may, refl);
          bounded = b;
        }
        | inr refused ↦ record {
          answer = answers.Refused refused.0;
          next = s;
          right = refused.1;
          bounded = b;
        }
      ]

  choice : (s : State) (b : IsBounded s) (call : Call) → Choice s call
  unfolding IsRight
  choice s b (calls.Insert k t q v) = put_choice s b k t q v
  choice s b (calls.Pin r k t q v) = pin_choice s b r k t q v (s.registers r) refl
  choice s b (calls.Lookup r k) = lookup_choice s b r k (s.registers r) refl
  choice s b (calls.Reref r g) = reref_choice s b r g (s.registers r) (s.registers g) refl refl
  choice s b (calls.Release r u e) = release_choice s b r u e (s.registers r) refl
  choice s b (calls.Value r) = value_choice s b r (s.registers r) refl
  choice s b (calls.Erase k) = record {
    answer = answers.Erased 0;
    next = s;
    right = refl;
    bounded = b;
  }
  choice s b calls.Totals =
      let most = charge_bound s b.0 in
      let covers = covers_bounded s b in
      record {
        answer = answers.Totals most most b.0;
        next = s;
        right = (covers, covers, entries_bounded s b, refl);
        bounded = b;
      }
  choice s b (calls.Word shard slot) = record {
    answer = answers.Word 0 0;
    next = s;
    right = refl;
    bounded = b;
  }
  choice s b calls.Stats =
      record {
        answer = answers.Stats (record {
          probes = 0;
          boosts = 0;
          evicted = 0;
          evicted_hit = 0;
          freed = 0;
          turns = 0;
          corrections = 0;
          lost = 0;
        });
        next = s;
        right = refl;
        bounded = b;
      }

  -- the lines that are left can be answered
  pub can_go_on : (states : States) → ((c : ℕ) → IsBounded (states c)) → (lines : List RunLine)
      → (told : List Answer) × (last : States) × AreRight Puts config states lines told last
  can_go_on states bounds [] = ([], states, refl)
  can_go_on states bounds (line ∷ lines) =
      let here = choice (states line.client) (bounds line.client) line.call in
      let rest = can_go_on (with_state states line.client here.next)
      (bounded_with states line.client here.next bounds here.bounded) lines in
      (here.answer ∷ rest.0, rest.1, (here.next, here.right, rest.2))
