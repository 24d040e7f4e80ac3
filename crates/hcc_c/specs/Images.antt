-- Entries that C gives one by one, and a cache that begins with them.
use Rattle.std.specs.Prelude.{◌≡◌, ℕ, ◌++◌, List, [], ◌∷◌, Result, Err, IfOk, IfErr, OnOk, OnErr, IsOkUnless, Box, length, map}
use Rattle.std.specs.Global.{Global}
use Rattle.hcc_rule.specs.declared.key.Key.{Key}
use Rattle.hcc_cache.specs.declared.cache.Cache.{Cache}
use Rattle.hcc_cache.specs.declared.client.Client.{Client}
use Rattle.hcc_cache.specs.declared.config.Config.{Config}
use Rattle.hcc_cache.specs.declared.tags.AnyBytes.{AnyBytes}
use Rattle.hcc_cache.specs.Configs.{checked}
use Rattle.hcc_cache.specs.Images.{Visible, visible_of}
use Rattle.hcc_cache.specs.Reopened.{IsReopened}
use Rattle.hcc_cache.specs.Taken.{split_of}
use Rattle.hcc_c.specs.declared.image.Image.{Image}
use Rattle.hcc_c.specs.declared.objects.ClientPlace.{ClientPlace}
use Rattle.hcc_c.specs.declared.pool.Pool.{Pool}
use Rattle.hcc_c.specs.declared.refusal.Refusal.{Refusal}
use Rattle.hcc_c.specs.declared.refusal.Refusal.TheVariants.{OutOfMemory}
use Rattle.hcc_c.specs.Pools.{BeginsWith, IsWholePool}
use Rattle.hcc_c.specs.Refusals.{opening_of}
use Rattle.hcc_c.specs.Sessions.{any}

-- the entries, in the order in which they came
abbrev pub entries_of : Image → List Visible
entries_of image = map visible_of image.entries.items

-- an entry, by what C gives of it
abbrev pub entry_for : Key → (value : List ℕ) → (charge uses : ℕ) → Visible
entry_for key value charge uses =
    record { key = key; value = value; charge = charge; uses = uses }

-- An entry is added behind the others, unless memory is refused.
pub record Adds (entry : Visible) (answer : Result (Unit {0}) Refusal) (old new : Image)
    : Type 0 where
  pub memory : IsOkUnless answer OutOfMemory
  pub nothing : OnErr answer (entries_of new ≡ entries_of old)
  pub added : OnOk answer (entries_of new ≡ entries_of old ++ entry ∷ [])

-- a cache of this number as it was configured, which begins with these entries, with a session of
-- each of its clients
pub record Reopens (config : Config) (number : ℕ) (entries : List Visible) (pool : Pool)
    (places : List ClientPlace) : Type 0 where
  pub tag : AnyBytes
  pub cache : Cache AnyBytes
  pub clients : List (Client AnyBytes)
  pub reopened : IsReopened any config tag entries cache clients
  pub begins : BeginsWith cache clients config number pool places

-- how many of these entries a cache doesn't begin with
abbrev pub left_out_of : Config → List Visible → ℕ
left_out_of config entries = length (split_of config entries).left

-- A cache is opened that begins with these entries, all its clients are given out, and it is
-- counted how many entries are left out.
pub record ReopensAs (config : Config) (number : ℕ) (entries : List Visible)
    (answer : Result (Box Pool Global × ℕ) Refusal) (old new : List ClientPlace) : Type 0 where
  pub refused : IfErr (checked config) (λ e. answer ≡ Err (opening_of e))
  pub memory : OnOk (checked config) (IsOkUnless answer OutOfMemory)
  pub nothing : OnErr answer (new ≡ old)
  pub reopened : IfOk answer (λ made. Reopens config number entries made.0.value new)
  pub left_out : IfOk answer (λ made. made.1 ≡ left_out_of config entries)
  pub whole : IfOk answer (λ made. IsWholePool made.0.value)
