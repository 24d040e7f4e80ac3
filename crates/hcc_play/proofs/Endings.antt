-- The status of a play says what it read and wrote.
use Rattle.std.proofs.Common.{◌≡◌, ◌∙◌, ap, subst, List, ℕ, Option, Some, None, Result, Ok, Err, IfErr, OnOk, OnErr}
use Rattle.std.proofs.Common.{◌*◌, ◌==◌, ◌||◌, Bool, true, false, inl, inr, is_err, nat_lt, refl}
use Rattle.std.specs.Prelude.{IfSome, if◌then◌else◌}
use Rattle.std.specs.Io.KnownBytes.{Appends}
use Rattle.hcc_cache.specs.Configs.{checked}
use Rattle.hcc_cache.specs.declared.config.Config.{Config}
use Rattle.hcc_cache.specs.declared.errors.NewError.{NewError}
use Rattle.hcc_core.specs.declared.setup.Setup.{Setup}
use Rattle.hcc_player.specs.declared.fault.PlayError.{PlayError}
use Rattle.hcc_player.specs.declared.fault.PlayError.TheVariants as plays
use Rattle.hcc_player.specs.declared.options.Options.{Options}
use Rattle.hcc_player.specs.Bytes.{AppendsPart}
use Rattle.hcc_player.specs.Options.{config_check, options_check, then_block, told_config}
use Rattle.hcc_player.specs.Play.{EndsAt, IsScript, WritesLate, script_text}
use Rattle.hcc_player.specs.PlayBlocks.{EndsBlocks, EndsPlay, WritesAtEnd}
use Rattle.hcc_player.specs.PlayBlocks as reports
use Rattle.hcc_player.specs.PlayRun.{EndsRun, WritesFront}
use Rattle.hcc_player.specs.PlayRun as traces
use Rattle.hcc_play.specs.Plays.{EndsCalls, EndsCore, EndsReads, WritesReportFront}
use Rattle.hcc_play.specs.Status.{status_after, status_of}
use Rattle.hcc_play.specs.declared.status.Status.{Status}
use Rattle.hcc_play.specs.declared.status.Status.TheVariants.{BadOptions}

abbrev Played : Type 0
Played = Result (Unit {0}) PlayError

maps : {X : Type 0} (o : Option X) (P Q : X → Type 0) → IfSome o P → ((x : X) → P x → Q x)
    → IfSome o Q
maps None P Q h f = tt
maps (Some x) P Q h f = f x h

module _ (setup : Setup) (read old new : Option (List ℕ)) where
  pub core_ends : (played : Result (Unit {0}) PlayError)
      → OnOk played
      (IfSome read (λ text. IsScript text × Appends old new (script_text setup text)))
      → IfErr played (λ e. IfSome read (EndsAt e)) → IfErr played (λ e. WritesLate e old new)
      → OnErr played (IfSome read (λ text. AppendsPart old new (script_text setup text)))
      → EndsCore setup read old new (status_after played)
  core_ends (Ok done) written ends late part = written
  core_ends (Err plays.ReadFailed) written ends late part = part
  core_ends (Err plays.TooLarge) written ends late part =
      (maps read _ _ ends (λ text large. inl large), late)
  core_ends (Err (plays.Text line fault)) written ends late part =
      (maps read _ _ ends (λ text at. inr (line, fault, at.1)), late)
  core_ends (Err plays.OutOfMemory) written ends late part = part
  core_ends (Err plays.WriteFailed) written ends late part = part
  core_ends (Err (plays.Refused error)) written ends late part = ends
  core_ends (Err plays.BadBlock) written ends late part = ends

module _ (config : Config) (read old new : Option (List ℕ)) where
  pub calls_end : (played : Result (Unit {0}) PlayError)
      → OnOk played (IfSome read (traces.Writes config old new))
      → IfErr played (λ e. IfSome read (EndsRun config e))
      → IfErr played (λ e. WritesLate e old new)
      → OnErr played (IfSome read (WritesFront config old new))
      → EndsCalls config read old new (status_after played)
  calls_end (Ok done) written ends late part = written
  calls_end (Err plays.ReadFailed) written ends late part = part
  calls_end (Err plays.TooLarge) written ends late part =
      (maps read _ _ ends (λ text large. inl large.1), late)
  calls_end (Err (plays.Text line fault)) written ends late part =
      (maps read _ _ ends (λ text at. inr (line, fault, at.2)), late)
  calls_end (Err plays.OutOfMemory) written ends late part = part
  calls_end (Err plays.WriteFailed) written ends late part = part
  calls_end (Err (plays.Refused error)) written ends late part =
      (maps read _ _ ends (λ text is. ap (λ (r : Played). is_err r) is), late)
  calls_end (Err plays.BadBlock) written ends late part =
      (maps read _ _ ends (λ text none. absurd none), late)

module _ (played : Result (Unit {0}) PlayError) (status : Status) (A B : Type 0)
    (is : status ≡ status_after played) where
  sizes_refused : (sizes : Result (Unit {0}) NewError)
      → IfErr (told_config sizes) (λ e. (played ≡ Err e) × A × B)
      → IfErr (told_config sizes) (λ e. (status ≡ BadOptions) × A × B)
  sizes_refused (Ok fine) h = tt
  sizes_refused (Err e) h = (is ∙ ap status_after h.0, h.1, h.2)

  pub calls_refused : (config : Config)
      → IfErr (config_check config) (λ e. (played ≡ Err e) × A × B)
      → IfErr (config_check config) (λ e. (status ≡ BadOptions) × A × B)
  calls_refused config = sizes_refused (checked config)

module _ (files : List (List ℕ)) (options : Options) (steady : (client : ℕ) → Type 0)
    (read old new : Option (List ℕ)) (fine : options_check options ≡ Ok tt) where
  judged : (e : PlayError) → IfSome read (EndsBlocks options e)
      → IfSome read (EndsPlay options.config.clients e)
  judged e ends =
      subst (λ (r : Played). IfSome read (λ text. elim r as (λ c. Type 0) [
        | Ok done ↦ EndsPlay options.config.clients e text
        | Err refusal ↦ e ≡ refusal
      ])) fine ends

  pub reads_end : (played : Result (Unit {0}) PlayError)
      → OnOk played (IfSome read (reports.Writes files options steady old new))
      → IfErr played (λ e. IfSome read (EndsBlocks options e))
      → IfErr played (λ e. WritesAtEnd e old new)
      → OnErr played (IfSome read (WritesReportFront files options steady old new))
      → EndsReads files options steady read old new (status_after played)
  reads_end (Ok done) written ends late part = written
  reads_end (Err plays.ReadFailed) written ends late part = part
  reads_end (Err plays.TooLarge) written ends late part =
      (maps read _ _ (judged plays.TooLarge ends) (λ text large. inl large), late)
  reads_end (Err (plays.Text line fault)) written ends late part = (
    maps read _ _ (judged (plays.Text line fault) ends) (λ text at. inr (line, fault, at.1)),
    late,
  )
  reads_end (Err plays.OutOfMemory) written ends late part = late
  reads_end (Err plays.WriteFailed) written ends late part = part
  reads_end (Err (plays.Refused error)) written ends late part =
      judged (plays.Refused error) ends
  reads_end (Err plays.BadBlock) written ends late part = judged plays.BadBlock ends

abbrev refuses : Bool → Played
refuses test = if test then Err plays.BadBlock else Ok tt

-- sizes that are refused have a status of their own
block_refused : (test : Bool)
    → IfErr (refuses test) (λ e. status_of e ≡ BadOptions)
block_refused true = refl
block_refused false = tt

options_refused : (sizes : Result (Unit {0}) NewError) (room block : ℕ)
    → IfErr (then_block (told_config sizes) room block) (λ e. status_of e ≡ BadOptions)
options_refused (Err e) room block = refl
options_refused (Ok fine) room block = block_refused ((block == 0) || nat_lt (8 * room) block)

both_errs : (r : Played) (status : Status) → IfErr r (λ e. status_of e ≡ BadOptions)
    → IfErr r (λ e. status ≡ status_of e) → IfErr r (λ e. status ≡ BadOptions)
both_errs (Ok fine) status known h = tt
both_errs (Err e) status known h = h ∙ known

pub reads_refused : (options : Options) (status : Status)
    → IfErr (options_check options) (λ e. status ≡ status_of e)
    → IfErr (options_check options) (λ e. status ≡ BadOptions)
reads_refused options status h =
    both_errs (options_check options) status
    (options_refused (checked options.config) options.config.room options.block) h
