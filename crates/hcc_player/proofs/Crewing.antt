-- Workers that are made one after another.
use Rattle.std.proofs.Common.{◌≡◌, ℕ, ◌+◌, List, [], ◌∷◌, ◌++◌, Some, length, slice_get, sym, ap, ◌∙◌, inl, inr, arith}
use Rattle.std.proofs.lemmas.List.{length_push}
use Rattle.hcc_cache.specs.declared.client.Client.{Client}
use Rattle.hcc_cache.proofs.Basics.Lists.{get_push}
use Rattle.hcc_player.specs.declared.blocks.line.BlockRead.{BlockRead}
use Rattle.hcc_player.specs.declared.blocks.worker.Worker.{Worker}
use Rattle.hcc_player.specs.Work.{EachAt, IsSetUp}
use Rattle.hcc_player.proofs.Places.{IsRest, rest_goes, rest_next}

-- one element more
each_push : {A : Type 0} (P : ℕ → A → Type 0) (xs : List A) (x : A) → EachAt P xs → P (length xs) x
    → EachAt P (xs ++ x ∷ [])
each_push P xs x each last k y here = elim (get_push xs x y k here) [
  | inl old ↦ each k y old
  | inr new ↦ rw (new.0, ← new.1) last
]

-- nothing was used up yet
rest_all : {A : Type 0} (all : List A) → IsRest all all (length {A = ℕ} [])
rest_all all i x here =
    let same : length {A = ℕ} [] + i ≡ i = omega arith in
    ap (slice_get all) same ∙ here

module _ {T S : Type 0} (clients : List (Client T)) (sources : List S)
    (lists : List (List BlockRead)) (block : ℕ) where
  -- Workers that were made, and the clients, sources and lists that are left.
  pub record AreMade (cs : List (Client T)) (ss : List S) (ls : List (List BlockRead))
      (workers : List (Worker T S)) : Type 0 where
    pub count : length workers + length cs ≡ length clients
    pub sources_left : length ss ≡ length cs
    pub lists_left : length ls ≡ length cs
    pub clients_are : IsRest clients cs (length workers)
    pub sources_are : IsRest sources ss (length workers)
    pub lists_are : IsRest lists ls (length workers)
    pub set : EachAt (IsSetUp clients sources lists block) workers

  -- A worker that was made of these.
  pub record IsMadeOf (client : Client T) (source : S) (mine : List BlockRead) (w : Worker T S)
      : Type 0 where
    pub client_is : w.client ≡ client
    pub source_is : w.reader.source ≡ source
    pub lines_are : w.lines.items ≡ mine
    pub block_is : w.reader.block ≡ block
    pub counts : (w.reader.hits ≡ 0) × (w.reader.misses ≡ 0)
    pub buffer : length w.buffer.items ≡ block

  -- none was made yet
  pub made_none : (workers : List (Worker T S)) → workers ≡ []
      → length sources ≡ length clients → length lists ≡ length clients
      → AreMade clients sources lists workers
  made_none workers none many_sources many_lists = rw none (record {
    count = omega arith;
    sources_left = many_sources;
    lists_left = many_lists;
    clients_are = rest_all clients;
    sources_are = rest_all sources;
    lists_are = rest_all lists;
    set = λ k w here. cc;
  })

  -- one more was made
  pub made_more : (client : Client T) (cs : List (Client T)) (source : S) (ss : List S)
      (mine : List BlockRead) (ls : List (List BlockRead)) (workers : List (Worker T S))
      (w : Worker T S) → AreMade (client ∷ cs) (source ∷ ss) (mine ∷ ls) workers
      → IsMadeOf client source mine w → AreMade cs ss ls (workers ++ w ∷ [])
  made_more client cs source ss mine ls workers w so_far made =
      let k = length workers in
      let longer : length (workers ++ w ∷ []) ≡ k + 1 = length_push workers w in
      let count = so_far.count in
      let sources_left = so_far.sources_left in
      let lists_left = so_far.lists_left in
      let set : IsSetUp clients sources lists block k w = record {
        client_is = rest_next clients cs k client so_far.clients_are
            ∙ ap Some (sym made.client_is);
        source_is = rest_next sources ss k source so_far.sources_are
            ∙ ap Some (sym made.source_is);
        lines_are = rest_next lists ls k mine so_far.lists_are ∙ ap Some (sym made.lines_are);
        block_is = made.block_is;
        counts = made.counts;
        buffer = made.buffer;
      } in
      record {
        count = omega arith;
        sources_left = omega arith;
        lists_left = omega arith;
        clients_are = rw longer (rest_goes clients cs k client so_far.clients_are);
        sources_are = rw longer (rest_goes sources ss k source so_far.sources_are);
        lists_are = rw longer (rest_goes lists ls k mine so_far.lists_are);
        set = each_push (IsSetUp clients sources lists block) workers w so_far.set set;
      }
