-- Once a view names every client, each of them rests or is its own, and no other view stands for
-- any.
use Rattle.std.proofs.Common.{◌≡◌, ℕ, ◌+◌, ◌<◌, ◌≢◌, ◌==◌, Bool, true, false, nat_lt, List, [], Option, Some, None, is_some, find, length, slice_get, sym, refl, ap, ◌∙◌, arith}
use Rattle.std.proofs.lemmas.Bool.{lt-ltb, eqb-true}
use Rattle.hcc_core.specs.declared.client.Client.{Client}
use Rattle.hcc_core.specs.declared.setup.Setup.{Setup}
use Rattle.hcc_core.specs.Sums.{when, total}
use Rattle.hcc_core.specs.World.{charged_to, occupied_by, standing_of}
use Rattle.hcc_core.specs.Lawful.{Lawful, owned_slot}
use Rattle.hcc_core.proofs.Opening.{is_lawful}
use Rattle.hcc_rule.specs.declared.key.Key.{Key}
use Rattle.hcc_rule.specs.declared.rule.Plan.{Plan}
use Rattle.hcc_rule.specs.declared.view.Made.{Made}
use Rattle.hcc_rule.specs.declared.view.Other.{Other}
use Rattle.hcc_rule.specs.declared.view.View.{View}
use Rattle.hcc_rule.specs.Closing.{IsBack, list_by}
use Rattle.hcc_rule.specs.Rule.{resting, IsNamed, IsSpent, Holds}
use Rattle.hcc_rule.specs.Views.{is_seated, names, named_by}
use Rattle.hcc_rule.proofs.Parts.Clients.{total-only}
use Rattle.hcc_rule.proofs.LastSeat.ClosingSums.{else_nothing}
use Rattle.hcc_rule.proofs.Basics.Findings.{find_passes, find_each, some_found, none_weighs, one_weighs}
use Rattle.hcc_rule.proofs.Basics.Lists.{there, within}
use Rattle.hcc_rule.proofs.Parts.SlotSteps.{Shard}

-- nothing stands for the client anywhere
pub record IsQuiet (client : Client) : Type 0 where
  pub charged : charged_to client ≡ 0
  pub occupied : occupied_by client ≡ 0
  pub standing : standing_of client ≡ 0
  pub trail : client.trail ≡ []
  pub owned : owned_slot client.owned ≡ None

-- what the lists of a view's clients give, of one client
abbrev pub made_of : {T : Type 0} → ((client : ℕ) → List Made → ℕ) → View T → ℕ → ℕ
made_of f v c =
    when (v.client == c) (f v.client v.made)
    + total (λ (o : Other). when (o.client == c) (f o.client o.made)) v.others

module _ {T : Type 0} (fits : T → Key → List ℕ → Type 0) (p : Plan T) (s : Shard fits p)
    (r : Holds fits p s)
    (id : ℕ) (v : View T) (at : slice_get s.views id ≡ Some v) (seated : is_seated v ≡ true)
    (back : IsBack p.geometry.clients v) where
  -- the world has the plan's size
  pub lawful : Lawful r.world
  lawful = is_lawful r.world r.lawful

  pub client_count : length r.world.clients ≡ p.geometry.clients
  client_count = lawful.sized.client_count ∙ ap (λ (x : Setup). x.clients) r.setup

  pub slot_count : length r.world.slots ≡ p.geometry.slots
  slot_count = lawful.sized.slot_count ∙ ap (λ (x : Setup). x.slots) r.setup

  -- the view names as many clients as all views together
  whole : total named_by s.views ≡ named_by v
  whole = r.seats.all ∙ (client_count ∙ sym back.all)

  -- no other view stands for a client
  pub unseated : (j : ℕ) (u : View T) → j ≢ id → slice_get s.views j ≡ Some u → u.tag ≡ None
  unseated j u other there = by u.tag refl
      (else_nothing named_by s.views id v at whole j u other there)
    where
      by : (o : Option T) → u.tag ≡ o → named_by u ≡ 0 → u.tag ≡ None
      by None is none = is
      by (Some t) is none =
          let sits : when (is_seated u) 1 ≡ 1 = ap (λ (o : Option T). when (is_some o) 1) is in
          absurd (omega arith)

  -- so each other view holds nothing
  pub spent : (j : ℕ) (u : View T) → j ≢ id → slice_get s.views j ≡ Some u
      → IsSpent u
  spent j u other there = (r.seats.each j u there).spent (unseated j u other there)

  -- so this view names each client once
  pub named_once : (c : ℕ) → c < length r.world.clients → names c v ≡ 1
  named_once c near =
      let sum = total-only (names c) s.views id v at
      (λ j u other there. rw (unseated j u other there, (spent j u other there).1) refl) in
      let once = r.seats.once c in
      let one : when (nat_lt c (length r.world.clients)) 1 ≡ 1 =
      ap (λ b. when b 1) (lt-ltb c (length r.world.clients) near) in
      omega arith

  -- nothing stands for the client, and the view has its list
  pub record IsKnown (c : ℕ) (client : Client) : Type 0 where
    pub quiet : IsQuiet client
    pub book : slice_get r.books c ≡ Some (list_by v c)
    pub made : (f : (client : ℕ) → List Made → ℕ) → f c (list_by v c) ≡ made_of f v c

  -- whether it is this client
  abbrev is_of : ℕ → Other → Bool
  is_of c o = o.client == c

  module _ (c : ℕ) (client : Client) (there : slice_get r.world.clients c ≡ Some client) where
    -- it is the view's own, or the view names it once beside its own
    others_once : (b : Bool) → (v.client == c) ≡ b
        → when b 1 + total (λ (o : Other). when (is_of c o) 1) v.others ≡ 1
    others_once b is =
        let once = named_once c (within r.world.clients c client there) in
        let self : names c v ≡ when b 1 + total (λ (o : Other). when (is_of c o) 1) v.others =
        rw (seated, is) refl in
        omega arith

    -- the view's own client
    own : (v.client == c) ≡ true → IsKnown c client
    own is =
        let same : v.client ≡ c = eqb-true v.client c is in
        let mine = r.seats.each id v at in
        let both : Some client ≡ Some v.work =
        sym there ∙ (ap (slice_get r.world.clients) (sym same) ∙ mine.work seated) in
        let hand : client ≡ v.work = cc in
        rw hand record {
          quiet = record {
            charged = rw back.idle refl;
            occupied = rw back.idle refl;
            standing = rw back.idle refl;
            trail = rw back.idle refl;
            owned = rw back.idle refl;
          };
          book = rw is (ap (slice_get r.books) (sym same) ∙ mine.book seated);
          made = λ f.
              let none = none_weighs (is_of c) (λ (o : Other). f o.client o.made) v.others
              (let once = others_once true is in omega arith) in
              let mine : f v.client v.made ≡ f c v.made = ap (λ k. f k v.made) same in
              rw is (omega arith);
        }

    -- one that it names beside it
    named : (v.client == c) ≡ false → IsKnown c client
    named is =
        let once = others_once false is in
        let found = some_found (is_of c) v.others (omega arith) in
        by found.0 found.1 (find_each (is_of c) (IsNamed r.world.clients r.books) v.others found.0
        (r.seats.each id v at).others found.1)
      where
        by : (o : Other) → find (is_of c) v.others ≡ Some o → IsNamed r.world.clients r.books o
            → IsKnown c client
        by o found is_named =
            let once = others_once false is in
            let same : o.client ≡ c = eqb-true o.client c
            (find_passes (is_of c) v.others o found) in
            let both : Some client ≡ Some (resting o.made o.dead) =
            sym there ∙ (ap (slice_get r.world.clients) (sym same) ∙ is_named.there) in
            let rests : client ≡ resting o.made o.dead = cc in
            rw rests record {
              quiet = record {
                charged = refl;
                occupied = refl;
                standing = refl;
                trail =
                    refl;
                owned = refl;
              };
              book = rw (is, found) (ap (slice_get r.books) (sym same) ∙ is_named.book);
              made = λ f.
                  let one = one_weighs (is_of c) (λ (q : Other). f q.client q.made) v.others o found
                  (omega arith) in
                  let theirs : f o.client o.made ≡ f c o.made = ap (λ k. f k o.made) same in
                  rw (is, found) (omega arith);
            }

    -- either way it is known
    pub known : IsKnown c client
    known = by (v.client == c) refl
      where
        by : (b : Bool) → (v.client == c) ≡ b → IsKnown c client
        by true is = own is
        by false is = named is

  -- a client's list is the view's
  pub book_known : (c : ℕ) → c < p.geometry.clients → slice_get r.books c ≡ Some (list_by v c)
  book_known c near =
      let client = there r.world.clients c (let size = client_count in omega arith) in
      (known c client.0 client.1).book
