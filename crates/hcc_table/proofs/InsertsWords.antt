-- The words of a payload, and the steps that write them.
use Rattle.std.proofs.Common.{◌≡◌, ℕ, ◌+◌, List, [], ◌∷◌, ◌++◌, map, length, refl, sym, ap, ◌∙◌, append-nil, arith}
use Rattle.std.specs.List.{range_with_len}
use Rattle.std.proofs.lemmas.List.{length-append, append_assoc}
use Rattle.std.proofs.lemmas.List.FromFn.{length-map-range_with_len, map-range_with_len_more}
use Rattle.hcc_core.specs.declared.client.Owned.TheVariants as owned
use Rattle.hcc_rule.specs.declared.layout.TheConstants.{PAYLOAD}
use Rattle.hcc_rule.specs.declared.view.View.{View}
use Rattle.hcc_rule.specs.Seats.{SeatOf, IsSeatOf, IsSameSeat, view}
use Rattle.hcc_rule.specs.ToldOwners.{after_write}
use Rattle.hcc_rule.specs.Words.{words_for, payload_word, payload}
use Rattle.hcc_table.specs.Inserted.{with_words}
use Rattle.hcc_table.proofs.Finds.{seat_then}

module _ {T : Type 0} where
  -- a seat whose tag stays is a seat of the table still
  pub seat_tagged : {id : _} {tag : T} {seat new : SeatOf T} → IsSeatOf id tag seat
      → IsSameSeat seat new
      → (view new).tag ≡ (view seat).tag → IsSeatOf id tag new
  seat_tagged old same tagged = record {
    table = same.table ∙ old.table;
    slots = same.slots ∙ old.slots;
    tagged = tagged ∙ old.tagged;
  }

  -- Of the payload the first so many words are written, behind what was written before.
  pub record IsWriting (value : List ℕ) (k : ℕ) (seat new : SeatOf T) : Type 0 where
    pub same : IsSameSeat seat new
    pub written : view new
        ≡ with_words ((view seat).written ++ map (payload_word value) (range_with_len 0 k))
        (view seat)

  -- None is written yet.
  pub writes_none : {value : List ℕ} {seat : SeatOf T} → IsWriting value 0 seat seat
  writes_none {seat = seat} = record {
    same = record { table = refl; number = refl; slots = refl };
    written = ap (λ ws. with_words ws (view seat)) (sym (append-nil (view seat).written));
  }

  module _ {value : List ℕ} {k : ℕ} {seat now : SeatOf T} (s : IsWriting value k seat now) where
    -- The seat is one of the table, and its client builds the slot.
    pub still_seat : {id : _} {tag : T} → IsSeatOf id tag seat → IsSeatOf id tag now
    still_seat {id} {tag} old = seat_tagged old s.same (ap (λ (z : View T). z.tag) s.written)

    pub still_builds : {slot : ℕ} → (view seat).work.owned ≡ owned.ForBuilding slot
        → (view now).work.owned ≡ owned.ForBuilding slot
    still_builds builds = ap (λ (z : View T). z.work.owned) s.written ∙ builds

    -- The next word is the one behind these.
    pub next_word : length (view seat).written ≡ PAYLOAD → PAYLOAD + k ≡ length (view now).written
    next_word head =
        let f = payload_word value in
        let long = length-append (view seat).written (map f (range_with_len 0 k)) in
        let more = length-map-range_with_len f 0 k in
        let same = ap (λ (z : View T). length z.written) s.written in
        omega arith

    -- One word more.
    pub writes_more : {new : SeatOf T} {word : ℕ} → IsSameSeat now new
        → view new ≡ after_write word (view now)
        → word ≡ payload_word value k → IsWriting value (k + 1) seat new
    writes_more {new} {word} same wrote is = record {
      same = seat_then seat now new s.same same;
      written = wrote ∙ ap (λ (z : View T). after_write word z) s.written
          ∙ ap (λ ws. with_words ws (view seat)) more;
    }
      where
        f : ℕ → ℕ
        f = payload_word value

        more : ((view seat).written ++ map f (range_with_len 0 k)) ++ word ∷ []
            ≡ (view seat).written ++ map f (range_with_len 0 (k + 1))
        more =
            append_assoc (view seat).written (map f (range_with_len 0 k)) (word ∷ [])
            ∙ ap (λ z. (view seat).written ++ (map f (range_with_len 0 k) ++ z ∷ [])) is
            ∙ ap (λ z. (view seat).written ++ z)
            (sym (map-range_with_len_more f 0 k k (omega arith)))

    -- All are written.
    pub writes_all : k ≡ words_for (length value)
        → view now ≡ with_words ((view seat).written ++ payload value) (view seat)
    writes_all all = s.written
        ∙ ap (λ n. with_words ((view seat).written ++ map (payload_word value) (range_with_len 0 n))
        (view seat)) all
