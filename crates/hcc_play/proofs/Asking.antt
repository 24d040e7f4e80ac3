-- What a subcommand asks for, and what a parse that failed ends with.
use Rattle.std.proofs.Common.{◌≡◌, ◌⊎◌, ◌∙◌, ◌<◌, ℕ, List, [], length, Option, Some, None, Result, Ok, Err}
use Rattle.std.proofs.Common.{IfOk, ap, ap₂, subst, sym, inl, inr, refl, arith, codes, slice_index}
use Rattle.std.proofs.Common.{false, is_some}
use Rattle.std.specs.Box.{box_value}
use Rattle.std.specs.Prelude.{◌≢◌, IsSomeAnd, option_map, unwrap_or}
use Rattle.std.specs.declared.alloc.AllocError.{AllocError}
use Rattle.clap.specs.Words.{IsAmong, Row, Text, found_of, has_subcommand, rows_of}
use Rattle.clap.specs.Words.{subcommand_name_of, subcommand_rows_of}
use Rattle.clap.specs.declared.error.kind.ErrorKind.{ErrorKind}
use Rattle.clap.specs.declared.error.kind.ErrorKind.TheVariants.{DisplayHelp, DisplayVersion, OutOfMemory}
use Rattle.clap.specs.declared.parser.matches.ArgMatches.{ArgMatches}
use Rattle.clap.specs.declared.parser.matches.ArgMatches.TheViews.{out-ArgMatches, out-SubCommand}
use Rattle.hcc_cache.specs.declared.config.Config.{Config}
use Rattle.hcc_core.specs.Opening.{CanOpen}
use Rattle.hcc_core.specs.declared.setup.Setup.{Setup}
use Rattle.hcc_player.specs.declared.options.Options.{Options}
use Rattle.hcc_play.specs.Parsed.{Used, faults_of, used_by}
use Rattle.hcc_play.specs.Requests.{AsksFor, Declines, EndsBy, IsAsked, IsAskedBy, IsOpen, request_of}
use Rattle.hcc_play.specs.Settings.{CanPlay, Finds, GivesConfig, GivesOptions, GivesSetup}
use Rattle.hcc_play.proofs.Settling.{opens}
use Rattle.hcc_play.specs.declared.request.Request.{Request}
use Rattle.hcc_play.specs.declared.request.Request.TheVariants as asks
use Rattle.hcc_play.specs.declared.status.Status.{Status}
use Rattle.hcc_play.specs.declared.status.Status.TheVariants.{Refused}

-- ---- the names of the subcommands

first_differs : (a b : Text) (m n : ℕ) → slice_index a 0 ≡ m → slice_index b 0 ≡ n
    → (m ≡ n → ⊥) → a ≡ b → ⊥
first_differs a b m n am bn never same =
    never (sym am ∙ ap (λ (t : Text). slice_index t 0) same ∙ bn)

pub core_run : codes "core" ≡ codes "run" → ⊥
core_run = first_differs (codes "core") (codes "run") 99 114 refl refl (λ e. omega arith)

core_blocks : codes "core" ≡ codes "blocks" → ⊥
core_blocks = first_differs (codes "core") (codes "blocks") 99 98 refl refl (λ e. omega arith)

pub run_blocks : codes "run" ≡ codes "blocks" → ⊥
run_blocks = first_differs (codes "run") (codes "blocks") 114 98 refl refl (λ e. omega arith)

module _ (rows : List Row) where
  -- nothing is asked for where a number isn't there
  pub no_core : ((setup : Setup) → GivesSetup rows setup × CanPlay setup → ⊥)
      → (request : Request) → AsksFor (codes "core") rows request → ⊥
  no_core never (asks.Core setup) h = never setup (h.1, h.2)
  no_core never (asks.Run config) h = core_run h.0
  no_core never (asks.Blocks options paths) h = core_blocks h.0
  no_core never (asks.Nothing status) h = h

  pub no_run : ((config : Config) → GivesConfig rows config → ⊥)
      → (request : Request) → AsksFor (codes "run") rows request → ⊥
  no_run never (asks.Core setup) h = core_run (sym h.0)
  no_run never (asks.Run config) h = never config h.1
  no_run never (asks.Blocks options paths) h = run_blocks h.0
  no_run never (asks.Nothing status) h = h

  pub no_blocks : ((options : Options) → GivesOptions rows options → ⊥)
      → (request : Request) → AsksFor (codes "blocks") rows request → ⊥
  no_blocks never (asks.Core setup) h = core_blocks (sym h.0)
  no_blocks never (asks.Run config) h = run_blocks (sym h.0)
  no_blocks never (asks.Blocks options paths) h = never options h.1
  no_blocks never (asks.Nothing status) h = h

  -- nor by a name that is no subcommand's
  pub no_other : (name : Text) → name ≢ codes "core" → name ≢ codes "run"
      → name ≢ codes "blocks" → (request : Request) → AsksFor name rows request → ⊥
  no_other name core run blocks (asks.Core setup) h = core h.0
  no_other name core run blocks (asks.Run config) h = run h.0
  no_other name core run blocks (asks.Blocks options paths) h = blocks h.0
  no_other name core run blocks (asks.Nothing status) h = h

-- ---- a parse that failed

pub is_mistake : (kind : ErrorKind) → kind ≢ OutOfMemory → kind ≢ DisplayHelp
    → kind ≢ DisplayVersion → EndsBy kind Refused
is_mistake OutOfMemory memory help version = absurd (memory refl)
is_mistake DisplayHelp memory help version = absurd (help refl)
is_mistake DisplayVersion memory help version = absurd (version refl)
is_mistake _ memory help version = refl

-- no words are at fault by memory
among : (words : List Text) (kind : ErrorKind) → kind ≢ OutOfMemory
    → (kind ≡ OutOfMemory) ⊎ IsAmong kind (faults_of words) → IsAmong kind (faults_of words)
among words kind never either = elim either [ inl memory ↦ absurd (never memory) | inr is ↦ is ]

module _ (words : List Text) where
  pub declines : (kind : ErrorKind) (status : Status)
      → (kind ≡ OutOfMemory) ⊎ IsAmong kind (faults_of words) → EndsBy kind status
      → Declines words status
  declines OutOfMemory status either ends = subst (Declines words) (sym ends) tt
  declines DisplayHelp status either ends =
      let is = among words DisplayHelp (λ e. cc) either in
      elim ends [
        | inl e ↦ subst (Declines words) (sym e) (inl is)
        | inr e ↦ subst (Declines words) (sym e) (inl is)
      ]
  declines DisplayVersion status either ends =
      let is = among words DisplayVersion (λ e. cc) either in
      elim ends [
        | inl e ↦ subst (Declines words) (sym e) (inr is)
        | inr e ↦ subst (Declines words) (sym e) (inr is)
      ]
  declines kind status either ends =
      let is = among words kind (λ e. cc) either in
      subst (Declines words) (sym ends) (inl (kind, is, λ e. cc, λ e. cc))

-- ---- the subcommand of matches

names_of : {A : Type 0} (o : Option A) (f : A → Text × List Row)
    → option_map (λ a. (f a).0) o ≡ option_map (λ (p : Text × List Row). p.0) (option_map f o)
names_of None f = refl
names_of (Some x) f = refl

both_parts : (o : Used) (name : Text) (rows : List Row)
    → Some name ≡ option_map (λ (p : Text × List Row). p.0) o
    → Some rows ≡ option_map (λ (p : Text × List Row). p.1) o → o ≡ Some (name, rows)
both_parts None name rows first second = cc
both_parts (Some p) name rows first second =
    let names : p.0 ≡ name = ap (λ (o : Option Text). unwrap_or o name) (sym first) in
    let others : p.1 ≡ rows = ap (λ (o : Option (List Row)). unwrap_or o rows) (sym second) in
    ap₂ (λ (a : Text) (b : List Row). Some (a, b)) names others

pub one_used : (m : ArgMatches) (name : Text) (rows : List Row) → Some name ≡ subcommand_name_of m
    → Some rows ≡ option_map (λ (p : Text × List Row). p.1) (subcommand_rows_of m)
    → subcommand_rows_of m ≡ Some (name, rows)
one_used m name rows first second =
    let names = names_of (out-ArgMatches m).subcommand (λ b. (
      (out-SubCommand (box_value b)).name.now,
      rows_of (found_of (out-SubCommand (box_value b)).matches),
    )) in
    both_parts (subcommand_rows_of m) name rows (first ∙ names) second

no_rows : {A : Type 0} (o : Option A) (f : A → Text × List Row)
    (P : Text × List Row → Type 0) → false ≡ is_some o → IsSomeAnd (option_map f o) P → ⊥
no_rows None f P none h = h
no_rows (Some x) f P none h = cc

pub none_used : (m : ArgMatches) → false ≡ has_subcommand m
    → (request : Request) → IsAskedBy (subcommand_rows_of m) request → ⊥
none_used m none request h =
    no_rows (out-ArgMatches m).subcommand (λ b. (
      (out-SubCommand (box_value b)).name.now,
      rows_of (found_of (out-SubCommand (box_value b)).matches),
    )) (λ one. AsksFor one.0 one.1 request) none h

-- ---- what is asked for in the end

core_opens : (used : Used) (setup : Setup) → IsAskedBy used (asks.Core setup) → CanOpen setup
core_opens None setup h = absurd h
core_opens (Some one) setup h = opens setup h.2

nothing_asked : (used : Used) (status : Status) → IsAskedBy used (asks.Nothing status) → ⊥
nothing_asked None status h = h
nothing_asked (Some one) status h = h

pub found_opens : (used : Used) (found : Result (Option Request) AllocError)
    → IfOk found (Finds (IsAskedBy used)) → IsOpen (request_of found)
found_opens used (Err e) h = tt
found_opens used (Ok None) h = tt
found_opens used (Ok (Some (asks.Core setup))) h = core_opens used setup h
found_opens used (Ok (Some (asks.Run config))) h = tt
found_opens used (Ok (Some (asks.Blocks options paths))) h = tt
found_opens used (Ok (Some (asks.Nothing status))) h = tt

module _ (words : List Text) (used : Used) (more : 1 < length words) (taken : faults_of words ≡ [])
    (is : used ≡ used_by words) where
  used_is : (request : Request) → IsAskedBy used request → IsAskedBy (used_by words) request
  used_is request h = subst (λ (o : Used). IsAskedBy o request) is h

  used_was : (request : Request) → IsAskedBy (used_by words) request → IsAskedBy used request
  used_was request h = subst (λ (o : Used). IsAskedBy o request) (sym is) h

  pub found_asked : (found : Result (Option Request) AllocError)
      → IfOk found (Finds (IsAskedBy used)) → IsAsked words (request_of found)
  found_asked (Err e) h = (more, tt)
  found_asked (Ok None) h = (
    more,
    inr (taken, λ request asked. h request (used_was request asked)),
  )
  found_asked (Ok (Some (asks.Core setup))) h = inr (more, taken, used_is (asks.Core setup) h)
  found_asked (Ok (Some (asks.Run config))) h = inr (more, taken, used_is (asks.Run config) h)
  found_asked (Ok (Some (asks.Blocks options paths))) h =
      inr (more, taken, used_is (asks.Blocks options paths) h)
  found_asked (Ok (Some (asks.Nothing status))) h = absurd (nothing_asked used status h)
