use Rattle.std.proofs.Common.{◌≡◌, ◌++◌, [], ◌∷◌, length, map, take, drop, get_or, sym, ap, ◌∙◌, subst, length-set, arith, rules}
use Rattle.std.proofs.Math.Seq.{take-append_seam}
use Rattle.std.proofs.lemmas.List.{length-replicate}
use Rattle.hcc_player.specs.BlocksLine.{reads_in}
use Rattle.hcc_player.specs.Deal.{deal_all, deal_one}
use Rattle.hcc_player.specs.Script.{script_of}
use Rattle.hcc_player.proofs.Dealing.{dealing_goes, dealing_says, dealing_ends}
use Rattle.hcc_player.proofs.Places.{count_map}
use Rattle.hcc_player.proofs.ReadBounds.{line_below}
use Rattle.hcc_player.proofs.Splits.{said_of}
use Rattle.hcc_player.proofs.blocks.deal.dealt.Goals as goal

pub loop-line-init : goal.loop-line-init
unfolding script_of
loop-line-init c =
    let clients = c.args.clients in
    let reads = said_of (reads_in clients c.args.text.now) c.requires in
    record {
      reads = reads.0;
      said = reads.1;
      dealing = record {
        number = 1;
        left = reads.0;
        said = reads.1;
        dealt = ap (λ lists. deal_all lists reads.0) c.in_ok-lists.ensures;
        count = ap length c.in_ok-lists.ensures ∙ length-replicate clients [];
      };
    }

pub judged_line-requires : goal.judged_line-requires
judged_line-requires c =
    let so_far = c.loop-line.invariant in
    dealing_says c.args.clients c.loop-line.rest.now c.in-Some.line.now c.in-Some.after.now
    (map (λ list. list.items) c.loop-line.lists.items) so_far.reads so_far.dealing
    c.in-Some.ensures.line

pub deal-requires : goal.deal-requires
deal-requires c =
    let read = c.in_ok-read.read in
    let below = line_below c.args.clients c.in-Some.line.now read c.in_ok-read.ensures.ok in
    let count = c.loop-line.invariant.dealing.count in
    let same = count_map (λ list. list.items) c.loop-line.lists.items in
    omega arith

pub loop-line-preserved : goal.loop-line-preserved
loop-line-preserved c =
    let so_far = c.loop-line.invariant in
    let old = c.loop-line.lists.items in
    let new = c.deal.new.lists in
    let lists = map (λ list. list.items) old in
    let read = c.in_ok-read.read in
    let dealt : map (λ list. list.items) new ≡ deal_one lists read =
    rw c.deref_mut.ensures.value at c.in_ok-deal.ensures in
    let many : length new ≡ c.loop-line.lists.len =
    sym (count_map (λ list. list.items) new) ∙ ap length dealt
    ∙ length-set lists read.client (get_or lists read.client [] ++ read ∷ [])
    ∙ count_map (λ list. list.items) old ∙ sym c.loop-line.lists.ok.0 in
    let whole : take c.loop-line.lists.len (new ++ drop (length new) old) ≡ new =
    subst (λ n. take n (new ++ drop (length new) old) ≡ new) many
    (take-append_seam new (drop (length new) old)) in
    record {
      reads = so_far.reads;
      said = so_far.said;
      dealing = dealing_goes c.args.clients c.loop-line.rest.now c.in-Some.line.now
          c.in-Some.after.now lists _ so_far.reads read so_far.dealing c.in-Some.ensures.line
          c.in_ok-read.ensures.ok (ap (map (λ list. list.items)) whole ∙ dealt);
    }

pub returns-clause-dealt : goal.returns-clause-dealt
returns-clause-dealt c =
    let so_far = c.loop-line.invariant in
    dealing_ends c.args.clients c.args.text.now c.loop-line.rest.now
    (map (λ list. list.items) c.loop-line.lists.items) so_far.reads so_far.said so_far.dealing
    (search rules)
