-- Lines that are dealt to their clients, one after another.
use Rattle.std.proofs.Common.{◌≡◌, ℕ, suc, ◌+◌, ◌<◌, ◌==◌, inl, inr, List, [], ◌∷◌, ◌++◌, Ok, IsOk, length, get_or, replicate, refl, sym, ap, ◌∙◌, length-set, append_assoc, append-nil, arith}
use Rattle.std.specs.List.{All}
use Rattle.std.proofs.lemmas.Bool.{cases_Bool, eqb-true, eqb-false}
use Rattle.std.proofs.lemmas.List.{get_or-set_same, get_or-set_other, get_or-replicate, length-replicate}
use Rattle.hcc_player.specs.declared.blocks.line.BlockRead.{BlockRead}
use Rattle.hcc_player.specs.BlocksLine.{block_line, reads_in}
use Rattle.hcc_player.specs.Deal.{deal_all, deal_one, AreDealt, DealtOf}
use Rattle.hcc_player.specs.Script.{lines_of, script_from}
use Rattle.hcc_player.specs.Tally.{lines_for}
use Rattle.hcc_player.proofs.ReadBounds.{all_below}
use Rattle.hcc_player.proofs.Splits.{ends, splits}

-- a line, and then those behind it
lines_more : (k : ℕ) (line : BlockRead) (lines : List BlockRead)
    → lines_for k (line ∷ lines) ≡ lines_for k (line ∷ []) ++ lines_for k lines
lines_more k line lines = elim (cases_Bool (line.client == k)) [
  | inl own ↦ rw own refl
  | inr other ↦ rw other refl
]

-- the lists behind one line
one_at : (lists : List (List BlockRead)) (line : BlockRead) (k : ℕ) → line.client < length lists
    → get_or (deal_one lists line) k [] ≡ get_or lists k [] ++ lines_for k (line ∷ [])
one_at lists line k within = elim (cases_Bool (line.client == k)) [
  | inl own ↦
      let same : line.client ≡ k = eqb-true line.client k own in
      rw own (rw (← same)
      (get_or-set_same lists line.client (get_or lists line.client [] ++ line ∷ []) [] within))
  | inr other ↦
      let differ = eqb-false line.client k other in
      rw other (get_or-set_other lists line.client k (get_or lists line.client [] ++ line ∷ []) []
      (λ same. differ (sym same)) ∙ sym (append-nil (get_or lists k [])))
]

-- lists stay as many
deal_length : (lists : List (List BlockRead)) (lines : List BlockRead)
    → length (deal_all lists lines) ≡ length lists
deal_length lists [] = refl
deal_length lists (line ∷ lines) =
    deal_length (deal_one lists line) lines
    ∙ length-set lists line.client (get_or lists line.client [] ++ line ∷ [])

-- behind many lines each list has grown by its client's
deal_at : (lists : List (List BlockRead)) (lines : List BlockRead) (k : ℕ)
    → All (λ line. line.client < length lists) lines
    → get_or (deal_all lists lines) k [] ≡ get_or lists k [] ++ lines_for k lines
deal_at lists [] k within = sym (append-nil (get_or lists k []))
deal_at lists (line ∷ lines) k within =
    let same = length-set lists line.client (get_or lists line.client [] ++ line ∷ []) in
    let here = within 0 line (omega arith) in
    deal_at (deal_one lists line) lines k (λ i d below. rw same (within (suc i) d (omega arith)))
    ∙ ap (λ front. front ++ lines_for k lines) (one_at lists line k here)
    ∙ append_assoc (get_or lists k []) (lines_for k (line ∷ [])) (lines_for k lines)
    ∙ ap (λ mine. get_or lists k [] ++ mine) (sym (lines_more k line lines))

-- lists that began with no line have what was dealt
are_dealt : (clients : ℕ) (lines : List BlockRead) → All (λ line. line.client < clients) lines
    → AreDealt clients lines (deal_all (replicate clients []) lines)
are_dealt clients lines below =
    let many : length (replicate clients []) ≡ clients = length-replicate clients [] in
    record {
      count = deal_length (replicate clients []) lines ∙ many;
      each = λ client within.
          deal_at (replicate clients []) lines client (rw many below)
          ∙ ap (λ front. front ++ lines_for client lines)
          (get_or-replicate clients client [] [] within);
    }

-- Some reads were dealt, and those that the rest of the text says are still to come: together they
-- are all that the text says.
pub record Dealing (clients : ℕ) (rest : List ℕ) (lists : List (List BlockRead))
    (all : List BlockRead) : Type 0 where
  pub number : ℕ
  pub left : List BlockRead
  pub said : script_from (block_line clients) number (lines_of rest) ≡ Ok left
  pub dealt : deal_all lists left ≡ deal_all (replicate clients []) all
  pub count : length lists ≡ clients

-- a read more
pub dealing_goes : (clients : ℕ) (rest line after : List ℕ) (lists new : List (List BlockRead))
    (all : List BlockRead) (read : BlockRead) → Dealing clients rest lists all
    → lines_of rest ≡ line ∷ lines_of after → block_line clients line ≡ Ok read
    → new ≡ deal_one lists read → Dealing clients after new all
dealing_goes clients rest line after lists new all read so_far cut here grown =
    let s = splits (block_line clients) so_far.number rest line after so_far.left cut so_far.said in
    let same : s.said ≡ read = cc (s.first, here) in
    record {
      number = so_far.number + 1;
      left = s.more;
      said = s.others;
      dealt = ap (λ l. deal_all l s.more) grown
          ∙ ap (λ r. deal_all (deal_one lists r) s.more) (sym same)
          ∙ ap (deal_all lists) (sym s.all_is)
          ∙ so_far.dealt;
      count = ap length grown
          ∙ length-set lists read.client (get_or lists read.client [] ++ read ∷ [])
          ∙ so_far.count;
    }

-- the line is one that the text says
pub dealing_says : (clients : ℕ) (rest line after : List ℕ) (lists : List (List BlockRead))
    (all : List BlockRead) → Dealing clients rest lists all
    → lines_of rest ≡ line ∷ lines_of after → IsOk (block_line clients line)
dealing_says clients rest line after lists all so_far cut =
    let s = splits (block_line clients) so_far.number rest line after so_far.left cut so_far.said in
    rw s.first refl

-- no read is left
pub dealing_ends : (clients : ℕ) (text rest : List ℕ) (lists : List (List BlockRead))
    (all : List BlockRead) → reads_in clients text ≡ Ok all → Dealing clients rest lists all
    → lines_of rest ≡ rest ∷ [] → DealtOf clients (reads_in clients text) lists
dealing_ends clients text rest lists all read so_far whole =
    let none = ends (block_line clients) so_far.number rest so_far.left whole so_far.said in
    let same : lists ≡ deal_all (replicate clients []) all =
    ap (deal_all lists) (sym none) ∙ so_far.dealt in
    rw (read, same) (are_dealt clients all (all_below clients text all read))
