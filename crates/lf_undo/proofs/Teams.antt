-- A team's queue of keys in the stacks: the value that contracts see of it, and of its changes.
use Rattle.std.proofs.Common.{◌≡◌, ℕ, ◌+◌, ◌-◌, ◌<◌, ◌≤◌, List, [], ◌∷◌, length, get_or, take, drop, set, replicate, ◌++◌, Option, Some, None, All, deque_items, deque_len, deque_capacity, sym, ap, subst, ◌∙◌, refl, arith}
use Rattle.std.specs.Prelude.{slice_get, map}
use Rattle.std.specs.declared.collections.VecDeque.{VecDeque}
use Rattle.std.proofs.lemmas.List.{length-map, map-set, set-get_or, nil_from_length, map_push, replicate_more}
use Rattle.std.proofs.lemmas.List.Elements.{All-set, All-get_or, All-push, All-same}
use Rattle.std.proofs.lemmas.Option.{slice_get_past, slice_get_read, slice_get-get_or}
use Rattle.slab.specs.Slab.{Slab, get, slab_len, Updates, ContainsKey}
use Rattle.lf_undo.specs.Stacks.{Stacks, stack_of}
use Rattle.lf_undo.specs.declared.stacks.Stacks.TheInside.{Inside}
use Rattle.lf_undo.specs.Keys.{HasKeyAt, values_at, AreStored}
use Rattle.lf_undo.proofs.Places.{get_or-image}
use Rattle.lf_undo.proofs.Values.{length_values, value_there}
use Rattle.lf_undo.proofs.Changes.{Become, popped, shortened, pushed}

module _ {A : Type 0} where
  -- A queue without keys is appended.
  pub one_queue_more : (queues later : List (VecDeque ℕ A)) (queue : VecDeque ℕ A) (count limit : ℕ) → later ≡ queues ++ queue ∷ [] → queue.items ≡ [] →
      limit ≤ deque_capacity queue →
      (map deque_items queues ≡ replicate count []) × All (λ (q : VecDeque ℕ A). limit ≤ deque_capacity q) queues →
      (map deque_items later ≡ replicate (count + 1) []) × All (λ (q : VecDeque ℕ A). limit ≤ deque_capacity q) later
  one_queue_more queues later queue count limit is none room so_far = (
    ap (map deque_items) is ∙ map_push deque_items queues queue
        ∙ ap (λ (ks : List ℕ). map deque_items queues ++ ks ∷ []) none
        ∙ ap (λ (ls : List (List ℕ)). ls ++ [] ∷ []) so_far.0
        ∙ replicate_more count [],
    All-same (λ (q : VecDeque ℕ A). limit ≤ deque_capacity q) later (queues ++ queue ∷ []) is
        (All-push (λ (q : VecDeque ℕ A). limit ≤ deque_capacity q) queues queue so_far.1 room),
  )

  -- The last key of a queue, and the others.
  pub last_key : (queue : VecDeque ℕ A) (popped : Option ℕ) (key : ℕ) → 0 < length queue.items →
      ((d : ℕ) → 0 < deque_len queue → popped ≡ Some (get_or queue.items (deque_len queue - 1) d)) → popped ≡ Some key →
      slice_get queue.items (length queue.items - 1) ≡ Some key
  last_key queue popped key some last is =
      let len = queue.ok.0 in
      slice_get-get_or queue.items (length queue.items - 1) key (omega arith)
      ∙ ap (λ (n : ℕ). Some (get_or queue.items (n - 1) key)) (sym len)
      ∙ sym (last key (omega arith)) ∙ is

  pub all_but_last : (queue next : VecDeque ℕ A) → next.items ≡ take (deque_len queue - 1) queue.items →
      next.items ≡ take (length queue.items - 1) queue.items
  all_but_last queue next is = is ∙ ap (λ (n : ℕ). take (n - 1) queue.items) queue.ok.0

module _ {T A : Type 0} where
  -- The keys of the teams.
  abbrev pub keys_in : Inside T A → List (List ℕ)
  keys_in inside = map deque_items inside.keys.items

  -- The team has this queue of keys, and contracts see this value of the stacks.
  pub record IsTeam (inside : Inside T A) (now : Stacks T) (team : ℕ) (queue : VecDeque ℕ A) : Type 0 where
    pub stored : AreStored inside.values (keys_in inside) inside.limit
    pub rooms : All (λ (q : VecDeque ℕ A). inside.limit ≤ deque_capacity q) inside.keys.items
    pub shown : map (values_at inside.values) (keys_in inside) ≡ now.lists
    pub limit : inside.limit ≡ now.limit
    pub at : slice_get inside.keys.items team ≡ Some queue
    pub within : team < length (keys_in inside)
    pub own : get_or (keys_in inside) team [] ≡ queue.items
    pub stack : stack_of now team ≡ values_at inside.values queue.items
    pub depth : length (stack_of now team) ≡ length queue.items
    pub short : length queue.items ≤ inside.limit
    pub room : inside.limit ≤ deque_capacity queue

  pub team_of : (inside : Inside T A) (now : Stacks T) (team : ℕ) (queue : VecDeque ℕ A) →
      AreStored inside.values (keys_in inside) inside.limit × All (λ (q : VecDeque ℕ A). inside.limit ≤ deque_capacity q) inside.keys.items →
      record { lists = map (values_at inside.values) (keys_in inside); limit = inside.limit; room = inside.values.capacity - slab_len inside.values } ≡ now →
      team < length now.lists → queue ≡ get_or inside.keys.items team queue → IsTeam inside now team queue
  team_of inside now team queue a view within read =
      let queues = inside.keys.items in
      let keys = keys_in inside in
      let s = inside.values in
      let shown : map (values_at s) keys ≡ now.lists = ap (λ (n : Stacks T). n.lists) view in
      let there : team < length queues = omega (arith, within, length-map queues (deque_items {X = ℕ} {Z = A}), length-map keys (values_at s), ap length shown) in
      let here : team < length keys = omega (arith, there, length-map queues (deque_items {X = ℕ} {Z = A})) in
      let at : slice_get queues team ≡ Some queue = slice_get_read queues (length queues) team queue refl there read in
      let own : get_or keys team [] ≡ queue.items = get_or-image deque_items queues keys team queue [] refl at in
      let first : stack_of now team ≡ values_at s (get_or keys team []) =
      get_or-image (values_at s) keys now.lists team (get_or keys team []) [] shown (slice_get-get_or keys team [] here) in
      let stack : stack_of now team ≡ values_at s queue.items = first ∙ ap (values_at s) own in
      let short = All-get_or (λ (ks : List ℕ). length ks ≤ inside.limit) keys team [] here a.0.within in
      let room = All-get_or (λ (q : VecDeque ℕ A). inside.limit ≤ deque_capacity q) queues team queue there a.1 in
      record {
        stored = a.0;
        rooms = a.1;
        shown = shown;
        limit = ap (λ (n : Stacks T). n.limit) view;
        at = at;
        within = here;
        own = own;
        stack = stack;
        depth = ap length stack
            ∙ length_values (get s) queue.items (λ i k there. a.0.stored team i k (ap (λ (ks : List ℕ). slice_get ks i) own ∙ there));
        short = subst (λ (ks : List ℕ). length ks ≤ inside.limit) own short;
        room = subst (λ (q : VecDeque ℕ A). inside.limit ≤ deque_capacity q) (sym read) room;
      }

  -- A key of the team, with its value.
  pub key_of : {inside : Inside T A} {now : Stacks T} {team : ℕ} {queue : VecDeque ℕ A} → IsTeam inside now team queue → (newer key : ℕ) →
      slice_get queue.items newer ≡ Some key → HasKeyAt (keys_in inside) team newer key
  key_of {inside} {now} {team} {queue} t newer key at = ap (λ (ks : List ℕ). slice_get ks newer) t.own ∙ at

  pub contains : {inside : Inside T A} {now : Stacks T} {team : ℕ} {queue : VecDeque ℕ A} → IsTeam inside now team queue → (newer key : ℕ) →
      slice_get queue.items newer ≡ Some key → ContainsKey inside.values key
  contains {inside} {now} {team} {queue} t newer key at = t.stored.stored team newer key (key_of t newer key at)

  pub value_newer : {inside : Inside T A} {now : Stacks T} {team : ℕ} {queue : VecDeque ℕ A} → IsTeam inside now team queue → (newer key : ℕ) (value : T) →
      slice_get queue.items newer ≡ Some key → get inside.values key ≡ Some value → Some value ≡ slice_get (stack_of now team) newer
  value_newer {inside} {now} {team} {queue} t newer key value at found =
      sym (ap (λ (xs : List T). slice_get xs newer) t.stack
      ∙ value_there (get inside.values) queue.items (λ i k there. contains t i k there) newer key at ∙ found)

  pub none_newer : {inside : Inside T A} {now : Stacks T} {team : ℕ} {queue : VecDeque ℕ A} → IsTeam inside now team queue → (newer : ℕ) →
      length queue.items ≤ newer → None ≡ slice_get (stack_of now team) newer
  none_newer {inside} {now} {team} {queue} t newer past = sym (slice_get_past (stack_of now team) newer (omega (arith, past, t.depth)))

  -- The stacks are sound, and represent these lists.
  pub record Change (later : Slab T) (queues : List (VecDeque ℕ A)) (limit : ℕ) (lists : List (List T)) : Type 0 where
    pub invariant : AreStored later (map deque_items queues) limit × All (λ (q : VecDeque ℕ A). limit ≤ deque_capacity q) queues
    pub shown : map (values_at later) (map deque_items queues) ≡ lists

  -- A change of the team's queue, in terms of the value that contracts see prior to it.
  reported : {inside : Inside T A} {now : Stacks T} {team : ℕ} {queue : VecDeque ℕ A} → IsTeam inside now team queue →
      (later : Slab T) (next : VecDeque ℕ A) (own : List ℕ) (f : List T → List T) → inside.limit ≤ deque_capacity next → next.items ≡ own →
      Become later (set (keys_in inside) team own) inside.limit
      (set (map (values_at inside.values) (keys_in inside)) team (f (values_at inside.values (get_or (keys_in inside) team [])))) →
      Change later (set inside.keys.items team next) inside.limit (set now.lists team (f (stack_of now team)))
  reported {inside} {now} {team} {queue} t later next own f room is become =
      let keys : set (keys_in inside) team own ≡ map deque_items (set inside.keys.items team next) =
      ap (λ (ks : List ℕ). set (keys_in inside) team ks) (sym is) ∙ sym (map-set deque_items inside.keys.items team next) in
      let lists = set (map (values_at inside.values) (keys_in inside)) team (f (values_at inside.values (get_or (keys_in inside) team []))) in
      let there = subst (λ (ks : List (List ℕ)). Become later ks inside.limit lists) keys become in
      record {
        invariant = (there.stored, All-set (λ (q : VecDeque ℕ A). inside.limit ≤ deque_capacity q) inside.keys.items team next room t.rooms);
        shown =
            there.shown
            ∙ ap (λ (ls : List (List T)). set ls team (f (values_at inside.values (get_or (keys_in inside) team [])))) t.shown
            ∙ ap (λ (ks : List ℕ). set now.lists team (f (values_at inside.values ks))) t.own
            ∙ ap (λ (xs : List T). set now.lists team (f xs)) (sym t.stack);
      }

  -- The newest value is removed.
  pub newest_gone : {inside : Inside T A} {now : Stacks T} {team : ℕ} {queue : VecDeque ℕ A} → IsTeam inside now team queue →
      (later : Slab T) (next : VecDeque ℕ A) (key : ℕ) → next.items ≡ drop 1 queue.items → deque_capacity next ≡ deque_capacity queue →
      slice_get queue.items 0 ≡ Some key → Updates inside.values later key None →
      Change later (set inside.keys.items team next) inside.limit (set now.lists team (drop 1 (stack_of now team)))
  newest_gone {inside} {now} {team} {queue} t later next key is capacity first updates =
      let room = t.room in
      reported t later next (drop 1 (get_or (keys_in inside) team [])) (drop 1) (omega arith) (is ∙ sym (ap (drop 1) t.own))
      (popped inside.values later (keys_in inside) inside.limit team key t.stored t.within (key_of t 0 key first) updates)

  -- The oldest value is removed.
  pub oldest_gone : {inside : Inside T A} {now : Stacks T} {team : ℕ} {queue : VecDeque ℕ A} → IsTeam inside now team queue →
      (later : Slab T) (next : VecDeque ℕ A) (key : ℕ) → next.items ≡ take (length queue.items - 1) queue.items → deque_capacity next ≡ deque_capacity queue →
      slice_get queue.items (length queue.items - 1) ≡ Some key → Updates inside.values later key None →
      Change later (set inside.keys.items team next) inside.limit
      (set now.lists team (take (length (stack_of now team) - 1) (stack_of now team)))
  oldest_gone {inside} {now} {team} {queue} t later next key is capacity last updates =
      let room = t.room in
      let own = get_or (keys_in inside) team [] in
      let rest : length (stack_of now team) - 1 ≡ length own - 1 = ap (λ (n : ℕ). n - 1) (t.depth ∙ sym (ap length t.own)) in
      let there : HasKeyAt (keys_in inside) team (length own - 1) key =
      subst (λ (n : ℕ). HasKeyAt (keys_in inside) team (n - 1) key) (sym (ap length t.own)) (key_of t (length queue.items - 1) key last) in
      subst (λ (n : ℕ). Change later (set inside.keys.items team next) inside.limit (set now.lists team (take n (stack_of now team)))) (sym rest)
      (reported t later next (take (length own - 1) own) (take (length own - 1)) (omega arith)
      (is ∙ sym (ap (λ (ks : List ℕ). take (length ks - 1) ks) t.own))
      (shortened inside.values later (keys_in inside) inside.limit team key t.stored t.within there updates))

  -- A value is added.
  pub one_more : {inside : Inside T A} {now : Stacks T} {team : ℕ} {queue : VecDeque ℕ A} → IsTeam inside now team queue →
      (later : Slab T) (next : VecDeque ℕ A) (key : ℕ) (value : T) → length (stack_of now team) < now.limit → next.items ≡ key ∷ queue.items →
      deque_capacity next ≡ deque_capacity queue → get inside.values key ≡ None → Updates inside.values later key (Some value) →
      Change later (set inside.keys.items team next) inside.limit (set now.lists team (value ∷ stack_of now team))
  one_more {inside} {now} {team} {queue} t later next key value below is capacity vacant updates =
      let room = t.room in
      let own = get_or (keys_in inside) team [] in
      let fewer : length own < inside.limit = omega (arith, t.depth, t.limit, below, ap length t.own) in
      reported t later next (key ∷ own) (λ xs. value ∷ xs) (omega arith) (is ∙ sym (ap (λ (ks : List ℕ). key ∷ ks) t.own))
      (pushed inside.values later (keys_in inside) inside.limit team key value t.stored t.within fewer vacant updates)

  -- The queue is replaced by one with the same keys.
  pub unchanged : {inside : Inside T A} {now : Stacks T} {team : ℕ} {queue : VecDeque ℕ A} → IsTeam inside now team queue →
      (next : VecDeque ℕ A) → next.items ≡ queue.items → deque_capacity next ≡ deque_capacity queue →
      Change inside.values (set inside.keys.items team next) inside.limit now.lists
  unchanged {inside} {now} {team} {queue} t next is capacity =
      let room = t.room in
      let keys : keys_in inside ≡ map deque_items (set inside.keys.items team next) =
      sym (map-set deque_items inside.keys.items team next ∙ ap (λ (ks : List ℕ). set (keys_in inside) team ks) (is ∙ sym t.own)
      ∙ set-get_or (keys_in inside) team []) in
      record {
        invariant = (
          subst (λ (ks : List (List ℕ)). AreStored inside.values ks inside.limit) keys t.stored,
          All-set (λ (q : VecDeque ℕ A). inside.limit ≤ deque_capacity q) inside.keys.items team next (omega arith) t.rooms,
        );
        shown = ap (map (values_at inside.values)) (sym keys) ∙ t.shown;
      }

  -- Nothing is removed from an empty queue.
  pub none_gone : {inside : Inside T A} {now : Stacks T} {team : ℕ} {queue : VecDeque ℕ A} → IsTeam inside now team queue →
      deque_len queue ≡ 0 → set now.lists team (drop 1 (stack_of now team)) ≡ now.lists
  none_gone {inside} {now} {team} {queue} t none =
      let bare = nil_from_length (stack_of now team) (t.depth ∙ sym queue.ok.0 ∙ none) in
      ap (λ (xs : List T). set now.lists team xs) (ap (drop 1) bare ∙ sym bare) ∙ set-get_or now.lists team []
