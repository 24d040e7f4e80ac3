-- A play with one client: what lines and their answers tell of what is there.
use Rattle.std.proofs.Common.{◌≡◌, ℕ, true, false, List, [], ◌∷◌, Some, length, length-set, sym, refl, ap, ◌∙◌, subst, arith}
use Rattle.std.specs.Prelude.{slice_get, slice_set}
use Rattle.std.proofs.lemmas.Option.{same_Some, slice_get_within}
use Rattle.hcc_core.proofs.ListLemmas.{read_here}
use Rattle.hcc_rule.specs.declared.geometry.Geometry.{Geometry}
use Rattle.hcc_rule.specs.declared.key.Key.{Key}
use Rattle.hcc_cache.specs.declared.cache.Cache.{Cache}
use Rattle.hcc_cache.specs.declared.client.Client.{Client}
use Rattle.hcc_cache.specs.declared.config.Config.{Config}
use Rattle.hcc_cache.specs.Clients.{Insertion}
use Rattle.hcc_cache.specs.Opened.{IsCacheOf, IsOpened}
use Rattle.hcc_cache.specs.Stays.{Stays}
use Rattle.hcc_cache.specs.Totals.{LoadsEachOccupancy, LoadsEachUsage}
use Rattle.hcc_cache.proofs.Clients.ShownAfterwards.{stays_then}
use Rattle.hcc_player.specs.declared.run.answer.Answer.{Answer}
use Rattle.hcc_player.specs.declared.run.answer.Answer.TheVariants as answers
use Rattle.hcc_player.specs.declared.run.call.Call.{Call}
use Rattle.hcc_player.specs.declared.run.call.Call.TheVariants as calls
use Rattle.hcc_player.specs.declared.run.call.RunLine.{RunLine}
use Rattle.hcc_player.specs.declared.run.registers.Filled.{Filled}
use Rattle.hcc_player.specs.declared.run.registers.Registers.{Registers}
use Rattle.hcc_player.specs.PlayRun.{AreManned}
use Rattle.hcc_player.specs.Registers.{AreFilled}
use Rattle.hcc_player.specs.RunAlone.{AreAllExact, IsExact}
use Rattle.hcc_player.specs.RunCalls.{Does, IsOfWords}
use Rattle.hcc_player.specs.Runs.{MakesAll}
use Rattle.hcc_player.specs.RunStates.{State, new_state, new_states}
use Rattle.hcc_player.specs.RunTold.{AreAllTold, FitsBeside, HadNoCause, IsLeftOut, IsTold}
use Rattle.hcc_player.specs.RunTold.{Told, WantsRoom}
use Rattle.hcc_player.specs.RunTold.{asked_by, keys_after, new_told, told_after}
use Rattle.hcc_player.proofs.ToldBounds.{IsWithin, within_after, within_new}
use Rattle.hcc_player.proofs.ToldInserts.{AreLaws, entered, pinned_tells, pinned_where_gone}
use Rattle.hcc_player.proofs.ToldInserts.{placed_where_gone, standing_tells, unentered, unwanted}
use Rattle.hcc_player.proofs.ToldInserts.{unwanted_pinned}
use Rattle.hcc_player.proofs.ToldRegisters.{HoldsAs, held_right, held_stands}
use Rattle.hcc_player.proofs.ToldShows.{Shows, Tells, erased_tells, first_some, freed_tells, none_erased}
use Rattle.hcc_player.proofs.ToldShows.{none_there, not_both, shows_stays, some_erased, tells_more}
use Rattle.hcc_player.proofs.ToldShows.{tells_same, tells_stays}

module _ {T : Type 0} (fits : T → Key → List ℕ → Type 0) (config : Config) (tag : T)
    (cache : Cache T) (is_of : IsCacheOf config tag cache) (one : config.clients ≡ 1)
    (laws : AreLaws fits config cache)
    (uses : (result : ℕ) (old new : Client T) → LoadsEachUsage cache result old new
    → Stays cache old new)
    (occupies : (result : ℕ) (old new : Client T) → LoadsEachOccupancy cache result old new
    → Stays cache old new) where
  here : cache.geometry.clients ≡ 1
  here = ap (λ (g : Geometry). g.clients) is_of.geometry ∙ one

  -- What is told agrees with what the client knows and made, and with what its registers hold.
  pub record Agrees (told : Told) (client : Client T) (handles : List Filled) : Type 0 where
    pub tells : Tells cache told.keys client
    pub most : IsWithin told.placed told.charged client
    pub state : State
    pub filled : AreFilled fits cache config state client handles
    pub holds : HoldsAs told.held state

  -- What is told once a line was answered.
  after : (line : RunLine) (call : Call) (answer : Answer) (told : Told) (old new : Client T)
      (was now : List Filled) → line.call ≡ call → IsExact cache line answer old new
      → Does fits cache call answer old new was now → HadNoCause config cache told call old new
      → Agrees told old was → Tells cache (keys_after call answer told.held told.keys) new
  unfolding Does
  after l (calls.Insert k x p v) answer t old new was now is exact did cause agrees =
      rw did.answer_is (entered fits config tag cache is_of one laws t k x p old new agrees.tells
      agrees.most cause did.others v did.told did.evicts did.words (did.shown here))
  after l (calls.Pin r k x p v) answers.Placed t old new was now is exact did cause agrees =
      pinned_tells fits config tag cache is_of one laws t k x p old new agrees.tells agrees.most
      cause did.others did.evicts.0 did.evicts.1 did.words (did.shown here refl)
  after l (calls.Pin r k x p v) answers.Standalone t old new was now is exact did cause agrees =
      standing_tells fits config tag cache is_of one laws t k x p old new agrees.tells agrees.most
      cause did.others did.evicts
  after l (calls.Pin r k x p v) (answers.Refused e) t old new was now is exact did cause agrees =
      unentered fits config tag cache is_of one laws t k x p old new agrees.tells agrees.most cause
      did.others e did.evicts
  after l (calls.Pin r k x p v) answers.Busy t old new was now is exact did cause agrees =
      tells_same config tag cache is_of one t.keys old new did.client agrees.tells
  after l (calls.Pin r k x p v) answers.Nothing t old new was now is exact did cause agrees =
      tells_same config tag cache is_of one t.keys old new did.client agrees.tells
  after l (calls.Lookup r k) (answers.Refused e) t old new was now is exact did cause agrees =
      tells_same config tag cache is_of one t.keys old new did.client agrees.tells
  after l (calls.Lookup r k) answers.Busy t old new was now is exact did cause agrees =
      tells_same config tag cache is_of one t.keys old new did.client agrees.tells
  after l (calls.Lookup r k) answers.Hit t old new was now is exact did cause agrees =
      tells_more config tag cache is_of one k true t.keys new
      (tells_stays config tag cache is_of one t.keys old new did.stays agrees.tells)
      (shows_stays config tag cache is_of one k true old new did.stays (first_some config tag cache
      is_of one k old (exact.hits r k is refl)))
  after l (calls.Lookup r k) answers.Miss t old new was now is exact did cause agrees =
      tells_more config tag cache is_of one k false t.keys new
      (tells_stays config tag cache is_of one t.keys old new did.stays agrees.tells)
      (shows_stays config tag cache is_of one k false old new did.stays (exact.misses r k is refl))
  after l (calls.Lookup r k) answers.Nothing t old new was now is exact did cause agrees =
      tells_same config tag cache is_of one t.keys old new did.client agrees.tells
  after l (calls.Reref r f) (answers.Refused e) t old new was now is exact did cause agrees =
      tells_same config tag cache is_of one t.keys old new did.client agrees.tells
  after l (calls.Reref r f) answers.Busy t old new was now is exact did cause agrees =
      tells_same config tag cache is_of one t.keys old new did.client agrees.tells
  after l (calls.Reref r f) answers.Held t old new was now is exact did cause agrees =
      tells_stays config tag cache is_of one t.keys old new did.stays agrees.tells
  after l (calls.Reref r f) answers.Nothing t old new was now is exact did cause agrees =
      tells_same config tag cache is_of one t.keys old new did.client agrees.tells
  after l (calls.Release r y z) answers.Busy t old new was now is exact did cause agrees =
      tells_same config tag cache is_of one t.keys old new did.client agrees.tells
  after l (calls.Release r y z) answers.Freed t old new was now is exact did cause agrees =
      freed_tells config tag cache is_of one fits t.keys y z _ _ old new did (t.held r)
      agrees.filled.known (held_stands fits cache config t.held agrees.state old was agrees.filled
      agrees.holds r did.handle did.held) agrees.tells
  after l (calls.Release r y z) answers.Kept t old new was now is exact did cause agrees =
      tells_stays config tag cache is_of one t.keys old new (did.stays refl) agrees.tells
  after l (calls.Release r y z) answers.Nothing t old new was now is exact did cause agrees =
      tells_same config tag cache is_of one t.keys old new did.client agrees.tells
  after l (calls.Value r) answers.Busy t old new was now is exact did cause agrees =
      tells_same config tag cache is_of one t.keys old new did.client agrees.tells
  after l (calls.Value r) answers.Nothing t old new was now is exact did cause agrees =
      tells_same config tag cache is_of one t.keys old new did.client agrees.tells
  after l (calls.Value r) (answers.Value w) t old new was now is exact did cause agrees =
      tells_stays config tag cache is_of one t.keys old new (stays_then cache old did.between new
      did.measured did.stays) agrees.tells
  after l (calls.Erase k) answers.Busy t old new was now is exact did cause agrees =
      tells_same config tag cache is_of one t.keys old new did.client agrees.tells
  after l (calls.Erase k) answers.Nothing t old new was now is exact did cause agrees =
      tells_same config tag cache is_of one t.keys old new did.client agrees.tells
  after l (calls.Erase k) (answers.Erased n) t old new was now is exact did cause agrees =
      erased_tells config tag cache is_of one t.keys k n old new did.words did.others
      (exact.erases k n is refl) agrees.tells
  after l calls.Totals answers.Busy t old new was now is exact did cause agrees =
      tells_same config tag cache is_of one t.keys old new did.client agrees.tells
  after l calls.Totals answers.Nothing t old new was now is exact did cause agrees =
      tells_same config tag cache is_of one t.keys old new did.client agrees.tells
  after l calls.Totals (answers.Totals a b c) t old new was now is exact did cause agrees =
      tells_stays config tag cache is_of one t.keys old new (stays_then cache old did.first new
      (uses a old did.first did.loads)
      (stays_then cache did.first did.second new did.stays
      (occupies c did.second new did.counts))) agrees.tells
  after l (calls.Word i j) answers.Busy t old new was now is exact did cause agrees =
      tells_same config tag cache is_of one t.keys old new did.client agrees.tells
  after l (calls.Word i j) answers.Nothing t old new was now is exact did cause agrees =
      tells_same config tag cache is_of one t.keys old new did.client agrees.tells
  after l (calls.Word i j) (answers.Word a b) t old new was now is exact did cause agrees =
      tells_stays config tag cache is_of one t.keys old new (stays_then cache old did.between new
      did.looks did.stays) agrees.tells
  after l calls.Stats answers.Busy t old new was now is exact did cause agrees =
      tells_same config tag cache is_of one t.keys old new did.client agrees.tells
  after l calls.Stats answers.Nothing t old new was now is exact did cause agrees =
      tells_same config tag cache is_of one t.keys old new did.client agrees.tells
  after l calls.Stats (answers.Stats s) t old new was now is exact did cause agrees =
      tells_same config tag cache is_of one t.keys old new did.1.client agrees.tells
  after l call answer t old new was now is exact did cause agrees = absurd did

  -- Lines are answered as it is told.

  -- a look-up's key is of words
  hit_words : (register : ℕ) (key : Key) (old new : Client T) (was now : List Filled)
      → Does fits cache (calls.Lookup register key) answers.Hit old new was now → IsOfWords key
  unfolding Does
  hit_words register key old new was now did = did.words

  miss_words : (register : ℕ) (key : Key) (old new : Client T) (was now : List Filled)
      → Does fits cache (calls.Lookup register key) answers.Miss old new was now → IsOfWords key
  unfolding Does
  miss_words register key old new was now did = did.words

  erased_words : (key : Key) (count : ℕ) (old new : Client T) (was now : List Filled)
      → Does fits cache (calls.Erase key) (answers.Erased count) old new was now → IsOfWords key
  unfolding Does
  erased_words key count old new was now did = did.words

  did_as : (call call' : Call) (answer answer' : Answer) (old new : Client T)
      (was now : List Filled) → call ≡ call' → answer ≡ answer'
      → Does fits cache call answer old new was now → Does fits cache call' answer' old new was now
  did_as call call' answer answer' old new was now is said did =
      subst (λ c. Does fits cache c answer' old new was now) is
      (subst (λ a. Does fits cache call a old new was now) said did)

  -- an insertion that fits isn't refused for want of room
  fits_by : (call : Call) (answer : Answer) (told : Told) (old new : Client T)
      (was now : List Filled) → Does fits cache call answer old new was now → Agrees told old was
      → (asked : Insertion) → asked_by call ≡ Some asked → FitsBeside config told asked.charge
      → ¬ WantsRoom answer
  unfolding Does
  fits_by (calls.Insert k x p v) answer told old new was now did agrees asked is beside wants =
      unwanted fits config tag cache is_of one laws told k x p old new agrees.tells agrees.most
      (subst (λ (i : Insertion). FitsBeside config told i.charge) (sym (same_Some _ _ is)) beside)
      did.told did.evicts (subst WantsRoom did.answer_is wants)
  fits_by (calls.Pin r k x p v) (answers.Refused e) told old new was now did agrees asked is beside
      wants =
      unwanted_pinned fits config tag cache is_of one laws told k x p old new agrees.tells
      agrees.most
      (subst (λ (i : Insertion). FitsBeside config told i.charge) (sym (same_Some _ _ is)) beside) e
      did.evicts wants
  fits_by (calls.Pin r k x p v) answer told old new was now did agrees asked is beside wants =
      absurd wants
  fits_by call answer told old new was now did agrees asked is beside wants = cc

  -- nor is it left out where its key isn't there
  places_by : (call : Call) (answer : Answer) (told : Told) (old new : Client T)
      (was now : List Filled) → Does fits cache call answer old new was now
      → Agrees told old was → (asked : Insertion) → asked_by call ≡ Some asked
      → FitsBeside config told asked.charge → told.keys asked.key ≡ Some false
      → ¬ IsLeftOut answer
  unfolding Does
  places_by (calls.Insert k x p v) answer told old new was now did agrees asked is beside gone out =
      placed_where_gone fits config tag cache is_of one laws told k x p old new agrees.tells
      agrees.most
      (subst (λ (i : Insertion). FitsBeside config told i.charge) (sym (same_Some _ _ is)) beside)
      did.told did.evicts did.words
      (subst (λ (i : Insertion). told.keys i.key ≡ Some false) (sym (same_Some _ _ is)) gone)
      (subst IsLeftOut did.answer_is out)
  places_by (calls.Pin r k x p v) answers.Standalone told old new was now did agrees asked is beside
      gone out =
      pinned_where_gone fits config tag cache is_of one laws told k x p old new agrees.tells
      agrees.most
      (subst (λ (i : Insertion). FitsBeside config told i.charge) (sym (same_Some _ _ is)) beside)
      did.evicts did.words
      (subst (λ (i : Insertion). told.keys i.key ≡ Some false) (sym (same_Some _ _ is)) gone)
  places_by (calls.Pin r k x p v) answers.Dropped told old new was now did agrees asked is beside
      gone out =
      absurd did
  places_by (calls.Pin r k x p v) answer told old new was now did agrees asked is beside gone out =
      absurd out
  places_by call answer told old new was now did agrees asked is beside gone out = cc

  told_so : (line : RunLine) (answer : Answer) (told : Told) (old new : Client T)
      (was now : List Filled) → IsExact cache line answer old new
      → Does fits cache line.call answer old new was now → Agrees told old was
      → IsTold config told line answer
  told_so line answer told old new was now exact did agrees = record {
    hits = λ register key is there said. not_both config tag cache is_of one key old
        (agrees.tells key true (miss_words register key old new was now
        (did_as _ _ _ _ old new was now is said did)) there)
        (exact.misses register key is said);
    misses = λ register key is gone said. not_both config tag cache is_of one key old
        (first_some config tag cache is_of one key old (exact.hits register key is said))
        (agrees.tells key false (hit_words register key old new was now
        (did_as _ _ _ _ old new was now is said did)) gone);
    erases = λ key count is said there. some_erased config tag cache is_of one key count old new
        (exact.erases key count is said)
        (agrees.tells key true (erased_words key count old new was now
        (did_as _ _ _ _ old new was now is said did)) there);
    erases_none = λ key count is said gone. none_erased config tag cache is_of one key count old new
        (exact.erases key count is said)
        (agrees.tells key false (erased_words key count old new was now
        (did_as _ _ _ _ old new was now is said did)) gone);
    fits = fits_by line.call answer told old new was now did agrees;
    places = places_by line.call answer told old new was now did agrees;
  }

  -- of all clients with their registers, of which there is one
  abbrev AllAgree : Told → List (Client T) → List Registers → Type 0
  AllAgree told clients registers =
      (c : ℕ) (client : Client T) (held : Registers) → slice_get clients c ≡ Some client
      → slice_get registers c ≡ Some held → Agrees told client held.filled.items

  all_after : (told : Told) (clients : List (Client T)) (registers : List Registers) (number : ℕ)
      (was client : Client T) (had holds : Registers) → length clients ≡ 1
      → slice_get clients number ≡ Some was → slice_get registers number ≡ Some had
      → Agrees told client holds.filled.items
      → AllAgree told (slice_set clients number client) (slice_set registers number holds)
  all_after told clients registers number was client had holds single here kept agrees c next held
      there full =
      let mine = slice_get_within clients number was here in
      let its = slice_get_within (slice_set clients number client) c next there in
      let long = length-set clients number client in
      let same : number ≡ c = omega arith in
      let is : next ≡ client =
      same_Some _ _ (sym there ∙ ap (slice_get (slice_set clients number client)) (sym same)
      ∙ read_here clients number was client here) in
      let has : held ≡ holds =
      same_Some _ _ (sym full ∙ ap (slice_get (slice_set registers number holds)) (sym same)
      ∙ read_here registers number had holds kept) in
      subst (λ z. Agrees told z held.filled.items) (sym is)
      (subst (λ (z : Registers). Agrees told client z.filled.items) (sym has) agrees)

  -- so are all answers
  told_all : (told : Told) (lines : List RunLine) (answered : List Answer)
      (old new : List (Client T)) (was now : List Registers)
      (makes : MakesAll fits cache lines answered old new was now) → length old ≡ 1
      → AreAllExact cache fits lines answered old new was now makes → AllAgree told old was
      → AreAllTold config cache fits told lines answered old new was now makes
  told_all told [] answered old new was now makes single exact agree = tt
  told_all told (line ∷ lines) [] old new was now makes single exact agree = absurd makes
  told_all told (line ∷ lines) (answer ∷ answered) old new was now makes single exact agree =
      let m = makes.2 in
      let before = agree line.client m.before m.held m.client_was m.registers_were in
      let next = m.goes config before.state before.filled in
      let then : Told = told_after line.call answer told in (
        told_so line answer told m.before m.after m.held.filled.items m.holds.filled.items exact.0
            m.did before,
        λ cause. told_all then lines answered makes.0 new makes.1 now makes.3
            (ap length m.clients_are ∙ length-set old line.client m.after ∙ single) exact.1
            (subst (λ cs. AllAgree then cs makes.1) (sym m.clients_are)
            (subst (λ rs. AllAgree then (slice_set old line.client m.after) rs)
            (sym m.registers_are)
            (all_after then old was line.client m.before m.after m.held m.holds single m.client_was
            m.registers_were (record {
              tells = after line line.call answer told m.before m.after m.held.filled.items
                  m.holds.filled.items refl exact.0 m.did cause before;
              most = within_after cache fits line.call answer told m.before m.after
                  m.held.filled.items m.holds.filled.items m.did before.most;
              state = next.0;
              filled = next.2;
              holds = held_right (fits cache.tag) config line.call answer told.held before.state
                  next.0 next.1 before.holds;
            })))),
      )

  -- At the beginning nothing is there, nothing is held, and nothing was placed.
  new_agrees : (clients : List (Client T)) (registers : List Registers)
      → IsOpened config tag cache clients
      → AreManned fits cache config new_states clients registers
      → AllAgree new_told clients registers
  new_agrees clients registers opened manned c client held there full = record {
    tells = λ key b words is.
        subst (λ z. Shows cache key z client) (same_Some _ _ is)
        (none_there config tag cache is_of one key client (opened.known c client there)
        (opened.empty c client there));
    most = within_new cache config tag clients opened c client there;
    state = new_state;
    filled = manned.each c client held there full;
    holds = λ r. refl;
  }

  pub told_new : (lines : List RunLine) (answered : List Answer) (old new : List (Client T))
      (was now : List Registers) (makes : MakesAll fits cache lines answered old new was now)
      → IsOpened config tag cache old → AreManned fits cache config new_states old was
      → AreAllExact cache fits lines answered old new was now makes
      → AreAllTold config cache fits new_told lines answered old new was now makes
  told_new lines answered old new was now makes opened manned exact =
      told_all new_told lines answered old new was now makes (opened.dealt.count ∙ one) exact
      (new_agrees old was opened manned)
