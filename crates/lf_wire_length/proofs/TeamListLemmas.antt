-- The lists of teams' nets, as they grow from net to net.
use Rattle.std.proofs.Common.{◌≡◌, ◌≢◌, ◌⊎◌, ⊎_elim, ℕ, zero, suc, ◌+◌, ◌-◌, ◌==◌, ◌≤◌, ◌<◌, Bool, true, false, ◌||◌, List, [], ◌∷◌, ◌++◌, map, length, All, get_or, fold, filter, Option, Some, None, if◌then◌else◌, cond, set, arith, refl, ap, ap₂, sym, ◌∙◌, subst}
use Rattle.std.specs.List.{range_with_len}
use Rattle.std.proofs.lemmas.Bool.{cases_eq, cases_lt, eq-eqb, eqb-true}
use Rattle.std.proofs.lemmas.List.{append-nil, get_or_past, get_or_push, get_or-set_other, get_or-set_same, length_push, map-id}
use Rattle.std.proofs.lemmas.List.Elements.{All-cons, All-filter, All-nil, filter-append}
use Rattle.std.proofs.lemmas.List.FromFn.{map-range_with_len_more}
use Rattle.lf_wire_length.specs.declared.pins.PackedPin.{PackedPin}
use Rattle.lf_wire_length.specs.declared.points.PinOffset.{PinOffset}
use Rattle.lf_wire_length.specs.Stored.{pin_stored}
use Rattle.lf_wire_length.specs.TeamNets.{has_pin_of, is_pin_of, owner_of_pin, with_net, with_owner, with_owner_of}
use Rattle.lf_wire_length.specs.Teams.{is_team}

not_equal : (a b : ℕ) → a ≢ b → (a == b) ≡ false
not_equal a b differ = go (a == b) refl where
  go : (t : Bool) → (a == b) ≡ t → (a == b) ≡ false
  go true e = absurd (differ (eqb-true a b e))
  go false e = e

-- True if the net is the last one of the list.
abbrev pub ends_with : ℕ → List ℕ → Bool
ends_with net numbers = get_or numbers (length numbers - 1) (net + 1) == net

-- ---- one net for one team

-- The lists after a net is appended to the one at a position.
pub net_added : (lists : List (List ℕ)) (team own net : ℕ) (old after : List ℕ) → team < length lists → get_or lists team [] ≡ old → after ≡ old ++ net ∷ []
    → ends_with net old ≡ false → own < length lists → get_or (set lists team after) own [] ≡ with_owner own net (get_or lists own []) (Some team)
net_added lists team own net old after within was is fresh inside = ⊎_elim here there (cases_eq team own) where
  here : team ≡ own → get_or (set lists team after) own [] ≡ with_owner own net (get_or lists own []) (Some team)
  here same =
      subst (λ k. get_or (set lists team after) k [] ≡ with_owner k net (get_or lists k []) (Some team)) same
      (get_or-set_same lists team after [] within ∙ is
      ∙ sym (ap (λ b. if b then with_net net (get_or lists team []) else get_or lists team []) (eq-eqb team team refl)
      ∙ ap (with_net net) was ∙ ap (λ b. if b then old else old ++ net ∷ []) fresh))

  there : team ≢ own → get_or (set lists team after) own [] ≡ with_owner own net (get_or lists own []) (Some team)
  there differ =
      get_or-set_other lists team own after [] (λ e. differ (sym e))
      ∙ sym (ap (λ b. if b then with_net net (get_or lists own []) else get_or lists own []) (not_equal team own differ))

-- ---- the pins of a net

ends_pushed : (numbers : List ℕ) (net : ℕ) → ends_with net (numbers ++ net ∷ []) ≡ true
ends_pushed numbers net =
    eq-eqb (get_or (numbers ++ net ∷ []) (length (numbers ++ net ∷ []) - 1) (net + 1)) net
    (get_or_push numbers net (net + 1) (length (numbers ++ net ∷ []) - 1) (omega (arith, length_push numbers net)))

module _ (rows : List PinOffset) (owners : List ℕ) (own net : ℕ) where
  abbrev after : List ℕ → PackedPin → List ℕ
  after = with_owner_of rows owners own net

  -- a list that ends with the net stays
  stays : (numbers : List ℕ) (o : Option ℕ) → ends_with net numbers ≡ true → with_owner own net numbers o ≡ numbers
  stays numbers None ends = refl
  stays numbers (Some team) ends = go (team == own) where
    go : (b : Bool) → (if b then with_net net numbers else numbers) ≡ numbers
    go true = ap (λ (e : Bool). if e then numbers else numbers ++ net ∷ []) ends
    go false = refl

  all_stay : (numbers : List ℕ) (pins : List PackedPin) → ends_with net numbers ≡ true → fold after numbers pins ≡ numbers
  all_stay numbers [] ends = refl
  all_stay numbers (p ∷ pins) ends =
      ap (λ (l : List ℕ). fold after l pins) (stays numbers (owner_of_pin owners (pin_stored rows p)) ends) ∙ all_stay numbers pins ends

  -- a pin of the team adds the net, and another one does not
  adds : (numbers : List ℕ) (o : Option ℕ) → ends_with net numbers ≡ false → is_team own o ≡ true → with_owner own net numbers o ≡ numbers ++ net ∷ []
  adds numbers None fresh is = absurd cc
  adds numbers (Some team) fresh is =
      ap (λ (b : Bool). if b then with_net net numbers else numbers) is ∙ ap (λ (e : Bool). if e then numbers else numbers ++ net ∷ []) fresh

  keeps : (numbers : List ℕ) (o : Option ℕ) → is_team own o ≡ false → with_owner own net numbers o ≡ numbers
  keeps numbers None is = refl
  keeps numbers (Some team) is = ap (λ (b : Bool). if b then with_net net numbers else numbers) is

  pub pins_added : (numbers : List ℕ) (pins : List PackedPin) → ends_with net numbers ≡ false
      → fold after numbers pins ≡ numbers ++ cond (has_pin_of owners own (map (pin_stored rows) pins)) (net ∷ []) []
  pins_added numbers [] fresh = sym (append-nil numbers)
  pins_added numbers (p ∷ pins) fresh = go (pins_added numbers pins fresh) (is_pin_of owners own (pin_stored rows p)) refl where
    go : fold after numbers pins ≡ numbers ++ cond (has_pin_of owners own (map (pin_stored rows) pins)) (net ∷ []) []
        → (b : Bool) → is_pin_of owners own (pin_stored rows p) ≡ b
        → fold after (after numbers p) pins ≡ numbers ++ cond (b || has_pin_of owners own (map (pin_stored rows) pins)) (net ∷ []) []
    go rest true e =
        ap (λ (l : List ℕ). fold after l pins) (adds numbers (owner_of_pin owners (pin_stored rows p)) fresh e)
        ∙ all_stay (numbers ++ net ∷ []) pins (ends_pushed numbers net)
    go rest false e = ap (λ (l : List ℕ). fold after l pins) (keeps numbers (owner_of_pin owners (pin_stored rows p)) e) ∙ rest

-- ---- the nets so far

below_range : (m a n : ℕ) → a + n ≤ m → All (λ x. x < m) (range_with_len a n)
below_range m a zero within = All-nil (λ x. x < m)
below_range m a (suc n) within = All-cons (λ x. x < m) a (range_with_len (a + 1) n) (omega (arith, within)) (below_range m (a + 1) n (omega (arith, within)))

-- A list of numbers below the net does not end with it.
below_fresh : (net : ℕ) (numbers : List ℕ) → All (λ x. x < net) numbers → ends_with net numbers ≡ false
below_fresh net numbers below = not_equal (get_or numbers (length numbers - 1) (net + 1)) net (⊎_elim inside outside (cases_lt (length numbers - 1) (length numbers))) where
  inside : length numbers - 1 < length numbers → get_or numbers (length numbers - 1) (net + 1) ≢ net
  inside within = λ e. let least : get_or numbers (length numbers - 1) (net + 1) < net = below (length numbers - 1) (net + 1) within in absurd (omega (arith, least, e))

  outside : length numbers ≤ length numbers - 1 → get_or numbers (length numbers - 1) (net + 1) ≢ net
  outside past = λ e. absurd (omega (arith, e, get_or_past numbers (length numbers - 1) (net + 1) past))

range_more : (n : ℕ) → range_with_len 0 (n + 1) ≡ range_with_len 0 n ++ n ∷ []
range_more n =
    sym (map-id (range_with_len 0 (n + 1))) ∙ map-range_with_len_more (λ (k : ℕ). k) 0 n n (omega arith)
    ∙ ap (λ (l : List ℕ). l ++ n ∷ []) (map-id (range_with_len 0 n))

pub one_net_more : (rows : List PinOffset) (owners : List ℕ) (own net : ℕ) (test : ℕ → Bool) (numbers : List ℕ) (pins : List PackedPin)
    → numbers ≡ filter test (range_with_len 0 net) → test net ≡ has_pin_of owners own (map (pin_stored rows) pins)
    → fold (with_owner_of rows owners own net) numbers pins ≡ filter test (range_with_len 0 (net + 1))
one_net_more rows owners own net test numbers pins are is =
    let below : All (λ x. x < net) numbers = rw are (All-filter test (λ x. x < net) (range_with_len 0 net) (below_range net 0 net (omega arith))) in
    pins_added rows owners own net numbers pins (below_fresh net numbers below)
    ∙ ap₂ (λ (l : List ℕ) (b : Bool). l ++ cond b (net ∷ []) []) are (sym is)
    ∙ sym (ap (filter test) (range_more net) ∙ filter-append test (range_with_len 0 net) (net ∷ []))
