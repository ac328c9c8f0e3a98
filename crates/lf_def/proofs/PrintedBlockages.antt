-- Printed blockages read back.
use Rattle.std.proofs.Common.{◌≡◌, ◌≢◌, ℕ, Bool, true, false, ◌||◌, List, [], ◌∷◌, ◌++◌, All, map, ℤ, Option, Some, refl, ap, ◌∙◌}
use Rattle.std.specs.Prelude.{codes}
use Rattle.std.specs.Str.{bytes_eq}
use Rattle.std.proofs.lemmas.List.{append_assoc, append-nil}
use Rattle.std.proofs.lemmas.List.Elements.{All-head, All-tail, All-cons, All-nil}
use Rattle.lf_units.specs.declared.geometry.Rect.{Rect}
use Rattle.lf_lex.specs.Tokens.{Lexeme, PlainToken, plain}
use Rattle.lf_lex.specs.Splices.{plain_word}
use Rattle.lf_lex.specs.Reading.{turn, is, end_name, to_semicolon, block}
use Rattle.lf_lex.proofs.Runs.{same}
use Rattle.lf_lex.proofs.BackWords.{end_back, is_at, no_more}
use Rattle.lf_def.specs.declared.section.Due.{Due}
use Rattle.lf_def.specs.declared.section.Due.TheVariants.{Item, Keyword, Rest, Separator}
use Rattle.lf_def.specs.declared.blockages.Blockage.{Blockage}
use Rattle.lf_def.specs.declared.blockages.BlockageParts.{BlockageParts}
use Rattle.lf_def.specs.Coordinates.{def_rectangle}
use Rattle.lf_def.specs.Blockages.{with_rect, noted, blockage_part, blockage_from, blockage_token, no_blockage, blockage_of, blockage, with_blockage}
use Rattle.lf_def.specs.Blockages.{blockage_or_end, blockages}
use Rattle.lf_def.specs.Ranges.{IsRect}
use Rattle.lf_def.specs.Printed.{WritesNumbers, rect_words, block_rects_words, soft_words, partial_words, blockage_words, IsPrintedBlockage, entries_words}
use Rattle.lf_def.specs.Printed.{section_words}
use Rattle.lf_lex.proofs.Back.{Back, TurnsBack, back_pure, back_bind, back_first, back_yes, back_no, at_map, turns_last, block_back}
use Rattle.lf_def.proofs.PrintedEntries.{rect_back}
use Rattle.lf_def.proofs.PrintedLists.{then_turns}
use Rattle.lf_def.proofs.PrintedSections.{to_semicolon_back}

abbrev parts_at : Bool → Bool → List Rect → Due → BlockageParts
parts_at soft partial rects due = record { soft = soft; partial = partial; rects = rects; due = due }

stop_back : (s : BlockageParts) → Back same (blockage_token s) (codes ";" ∷ []) (turn s false)
unfolding blockage_token blockage_from
stop_back s = back_first same _ (codes ";") [] (turn s false)
    (λ t e. back_yes same (is (codes ";") t) _ _ [] (turn s false) (is_at (codes ";") (codes ";") t e) (back_pure same (turn s false) (turn s false) refl))

plus_back : (s : BlockageParts) → Back same (blockage_token s) (codes "+" ∷ []) (turn (record s { due = Keyword }) true)
unfolding blockage_token blockage_from
plus_back s =
    back_first same _ (codes "+") [] (turn (record s { due = Keyword }) true)
    (λ t e. back_no same (is (codes ";") t) _ _ [] (turn (record s { due = Keyword }) true) (is_at (codes ";") (codes "+") t e)
    (back_yes same (is (codes "+") t) _ _ [] (turn (record s { due = Keyword }) true) (is_at (codes "+") (codes "+") t e)
    (back_pure same (turn (record s { due = Keyword }) true) (turn (record s { due = Keyword }) true) refl)))

noted_at : (soft partial : Bool) (rects : List Rect) (w : List ℕ) (t : Lexeme) → plain t ≡ plain_word w
    → noted (parts_at soft partial rects Keyword) t ≡ parts_at (soft || bytes_eq w (codes "SOFT")) (partial || bytes_eq w (codes "PARTIAL")) rects Rest
noted_at soft partial rects w t e = ap (λ (p : PlainToken). noted (parts_at soft partial rects Keyword) (record t { text = p.text })) e

word_back : (soft partial : Bool) (rects : List Rect) (w : List ℕ) → bytes_eq w (codes ";") ≡ false → bytes_eq w (codes "+") ≡ false
    → Back same (blockage_token (parts_at soft partial rects Keyword)) (w ∷ [])
    (turn (parts_at (soft || bytes_eq w (codes "SOFT")) (partial || bytes_eq w (codes "PARTIAL")) rects Rest) true)
unfolding blockage_token blockage_from blockage_part
word_back soft partial rects w h k =
    back_first same _ w [] (turn (parts_at (soft || bytes_eq w (codes "SOFT")) (partial || bytes_eq w (codes "PARTIAL")) rects Rest) true) (λ t e.
    back_no same (is (codes ";") t) _ _ [] (turn (parts_at (soft || bytes_eq w (codes "SOFT")) (partial || bytes_eq w (codes "PARTIAL")) rects Rest) true)
    (is_at (codes ";") w t e ∙ h)
    (back_no same (is (codes "+") t) _ _ [] (turn (parts_at (soft || bytes_eq w (codes "SOFT")) (partial || bytes_eq w (codes "PARTIAL")) rects Rest) true)
    (is_at (codes "+") w t e ∙ k)
    (back_pure same (turn (parts_at (soft || bytes_eq w (codes "SOFT")) (partial || bytes_eq w (codes "PARTIAL")) rects Rest) true)
    (turn (noted (parts_at soft partial rects Keyword) t) true)
    (ap (λ (z : BlockageParts). turn z true) (noted_at soft partial rects w t e)))))

density_back : (soft partial : Bool) (rects : List Rect) → Back same (blockage_token (parts_at soft partial rects Rest)) (codes "0.5" ∷ [])
    (turn (parts_at soft partial rects Rest) true)
unfolding blockage_token blockage_from blockage_part
density_back soft partial rects =
    back_first same _ (codes "0.5") [] (turn (parts_at soft partial rects Rest) true) (λ t e.
    back_no same (is (codes ";") t) _ _ [] (turn (parts_at soft partial rects Rest) true) (is_at (codes ";") (codes "0.5") t e)
    (back_no same (is (codes "+") t) _ _ [] (turn (parts_at soft partial rects Rest) true) (is_at (codes "+") (codes "0.5") t e)
    (back_no same (is (codes "RECT") t) _ _ [] (turn (parts_at soft partial rects Rest) true) (is_at (codes "RECT") (codes "0.5") t e)
    (back_pure same (turn (parts_at soft partial rects Rest) true) (turn (parts_at soft partial rects Rest) true) refl))))

rect_more : (print : ℤ → List ℕ) → WritesNumbers print → (due : Due) (soft partial : Bool) (rects : List Rect) (r : Rect) → IsRect r
    → Back same (with_rect (parts_at soft partial rects due)) (rect_words print r []) (turn (parts_at soft partial (rects ++ r ∷ []) Item) true)
unfolding with_rect
rect_more print writes due soft partial rects r h =
    back_bind same same def_rectangle _ (rect_words print r []) [] r (turn (parts_at soft partial (rects ++ r ∷ []) Item) true) (rect_back print writes r h) (λ q eq.
    back_pure same (turn (parts_at soft partial (rects ++ r ∷ []) Item) true) (turn (parts_at soft partial (rects ++ q ∷ []) Item) true)
    (ap (λ (z : Rect). turn (parts_at soft partial (rects ++ z ∷ []) Item) true) eq))

no_word : (soft : Bool) → Back same (blockage_token (parts_at soft false [] Keyword)) (codes "PARTIAL" ∷ []) (turn (parts_at (soft || false) true [] Rest) true)
    → Back same (blockage_token (parts_at soft false [] Keyword)) (codes "PARTIAL" ∷ []) (turn (parts_at soft true [] Rest) true)
no_word true f = f
no_word false f = f

-- Holds if a rectangle may follow.
abbrev TakesRect : Due → Type 0
TakesRect Keyword = ⊥
TakesRect _ = Unit {0}

rect_part : (print : ℤ → List ℕ) → WritesNumbers print → (due : Due) → TakesRect due → (soft partial : Bool) (rects : List Rect) (r : Rect) → IsRect r
    → (t : Lexeme) → plain t ≡ plain_word (codes "RECT")
    → Back same (blockage_part due (parts_at soft partial rects due) t) (rect_words print r []) (turn (parts_at soft partial (rects ++ r ∷ []) Item) true)
unfolding blockage_part
rect_part print writes Keyword ok soft partial rects r h t e = absurd ok
rect_part print writes Item ok soft partial rects r h t e = back_yes same (is (codes "RECT") t) _ _ (rect_words print r [])
    (turn (parts_at soft partial (rects ++ r ∷ []) Item) true) (is_at (codes "RECT") (codes "RECT") t e) (rect_more print writes Item soft partial rects r h)
rect_part print writes Rest ok soft partial rects r h t e = back_yes same (is (codes "RECT") t) _ _ (rect_words print r [])
    (turn (parts_at soft partial (rects ++ r ∷ []) Item) true) (is_at (codes "RECT") (codes "RECT") t e) (rect_more print writes Rest soft partial rects r h)
rect_part print writes Separator ok soft partial rects r h t e =
    back_yes same (is (codes "RECT") t) _ _ (rect_words print r []) (turn (parts_at soft partial (rects ++ r ∷ []) Item) true)
    (is_at (codes "RECT") (codes "RECT") t e) (rect_more print writes Separator soft partial rects r h)

rect_turn : (print : ℤ → List ℕ) → WritesNumbers print → (due : Due) → TakesRect due → (soft partial : Bool) (rects : List Rect) (r : Rect) → IsRect r
    → Back same (blockage_token (parts_at soft partial rects due)) (codes "RECT" ∷ rect_words print r [])
    (turn (parts_at soft partial (rects ++ r ∷ []) Item) true)
unfolding blockage_token blockage_from
rect_turn print writes due ok soft partial rects r h =
    back_first same _ (codes "RECT") (rect_words print r []) (turn (parts_at soft partial (rects ++ r ∷ []) Item) true) (λ t e.
    back_no same (is (codes ";") t) _ _ (rect_words print r []) (turn (parts_at soft partial (rects ++ r ∷ []) Item) true)
    (is_at (codes ";") (codes "RECT") t e)
    (back_no same (is (codes "+") t) _ _ (rect_words print r []) (turn (parts_at soft partial (rects ++ r ∷ []) Item) true)
    (is_at (codes "+") (codes "RECT") t e)
    (rect_part print writes due ok soft partial rects r h t e)))

rects_turns : (print : ℤ → List ℕ) → WritesNumbers print → (due : Due) → TakesRect due → (soft partial : Bool) (before rs : List Rect) → All IsRect rs
    → (end : Due) × TurnsBack same blockage_token (parts_at soft partial before due) (block_rects_words print rs) (parts_at soft partial (before ++ rs) end)
rects_turns print writes due ok soft partial before [] h = (
  due,
  rw (append-nil before)
      (turns_last same blockage_token (parts_at soft partial before due) (parts_at soft partial before due) (codes ";" ∷ [])
      (stop_back (parts_at soft partial before due))),
)
rects_turns print writes due ok soft partial before (r ∷ rs) h =
    let later = rects_turns print writes Item tt soft partial (before ++ r ∷ []) rs (All-tail IsRect r rs h) in
    let there : (before ++ r ∷ []) ++ rs ≡ before ++ r ∷ rs = append_assoc before (r ∷ []) rs in (
      later.0,
      then_turns blockage_token (parts_at soft partial before due) (parts_at soft partial (before ++ r ∷ []) Item)
          (parts_at soft partial (before ++ r ∷ rs) later.0) (codes "RECT") (rect_words print r []) (block_rects_words print rs)
          (rect_turn print writes due ok soft partial before r (All-head IsRect r rs h)) (rw there at later.1),
    )

partial_turns : (print : ℤ → List ℕ) → WritesNumbers print → (due : Due) → TakesRect due → (soft partial : Bool) (rs : List Rect) → All IsRect rs
    → (end : Due) × TurnsBack same blockage_token (parts_at soft false [] due) (partial_words partial (block_rects_words print rs))
    (parts_at soft partial rs end)
partial_turns print writes due ok soft false rs h = rects_turns print writes due ok soft false [] rs h
partial_turns print writes due ok soft true rs h =
    let later = rects_turns print writes Rest tt soft true [] rs h in (
      later.0,
      then_turns blockage_token (parts_at soft false [] due) (parts_at soft false [] Keyword) (parts_at soft true rs later.0) (codes "+") []
          (codes "PARTIAL" ∷ codes "0.5" ∷ block_rects_words print rs) (plus_back (parts_at soft false [] due))
          (then_turns blockage_token (parts_at soft false [] Keyword) (parts_at soft true [] Rest) (parts_at soft true rs later.0) (codes "PARTIAL") []
          (codes "0.5" ∷ block_rects_words print rs) (no_word soft (word_back soft false [] (codes "PARTIAL") refl refl))
          (then_turns blockage_token (parts_at soft true [] Rest) (parts_at soft true [] Rest) (parts_at soft true rs later.0) (codes "0.5") []
          (block_rects_words print rs) (density_back soft true []) later.1)),
    )

soft_turns : (print : ℤ → List ℕ) → WritesNumbers print → (soft partial : Bool) (rs : List Rect) → All IsRect rs
    → (end : Due) × TurnsBack same blockage_token no_blockage (soft_words soft (partial_words partial (block_rects_words print rs)))
    (parts_at soft partial rs end)
soft_turns print writes false partial rs h = partial_turns print writes Item tt false partial rs h
soft_turns print writes true partial rs h =
    let later = partial_turns print writes Rest tt true partial rs h in (
      later.0,
      then_turns blockage_token no_blockage (parts_at false false [] Keyword) (parts_at true partial rs later.0) (codes "+") []
          (codes "SOFT" ∷ partial_words partial (block_rects_words print rs)) (plus_back no_blockage)
          (then_turns blockage_token (parts_at false false [] Keyword) (parts_at true false [] Rest) (parts_at true partial rs later.0) (codes "SOFT") []
          (partial_words partial (block_rects_words print rs)) (word_back false false [] (codes "SOFT") refl refl) later.1),
    )

pub blockage_back : (print : ℤ → List ℕ) → WritesNumbers print → (b : Blockage) → IsPrintedBlockage b → Back same blockage (blockage_words print b) (Some b)
unfolding blockage
blockage_back print writes b h =
    let words = soft_words b.soft (partial_words b.partial (block_rects_words print b.rects)) in
    let all = soft_turns print writes b.soft b.partial b.rects h in
    back_first same _ (codes "PLACEMENT") (soft_words b.soft (partial_words b.partial (block_rects_words print b.rects))) (Some b) (λ t e.
    back_no same (is (codes "LAYER") t) _ _ (soft_words b.soft (partial_words b.partial (block_rects_words print b.rects))) (Some b)
    (is_at (codes "LAYER") (codes "PLACEMENT") t e)
    (back_yes same (is (codes "PLACEMENT") t) _ _ (soft_words b.soft (partial_words b.partial (block_rects_words print b.rects))) (Some b)
    (is_at (codes "PLACEMENT") (codes "PLACEMENT") t e)
    (no_more same _ (Some b) (soft_words b.soft (partial_words b.partial (block_rects_words print b.rects)))
    (back_bind same same (block blockage_token no_blockage) _ (soft_words b.soft (partial_words b.partial (block_rects_words print b.rects))) []
    (parts_at b.soft b.partial b.rects all.0) (Some b)
    (block_back same blockage_token no_blockage (parts_at b.soft b.partial b.rects all.0)
    (soft_words b.soft (partial_words b.partial (block_rects_words print b.rects))) all.1) (λ p ep.
    back_pure same (Some b) (Some (blockage_of p)) (ap (λ (z : BlockageParts). Some (blockage_of z)) ep))))))

-- BLOCKAGES.

last_blockage : (s : List Blockage) → Back same (blockage_or_end s) (codes "END" ∷ codes "BLOCKAGES" ∷ []) (turn s false)
unfolding blockage_or_end
last_blockage s =
    back_first same _ (codes "END") (codes "BLOCKAGES" ∷ []) (turn s false)
    (λ t e. back_no same (is (codes "-") t) _ _ (codes "BLOCKAGES" ∷ []) (turn s false) (is_at (codes "-") (codes "END") t e)
    (back_yes same (is (codes "END") t) _ _ (codes "BLOCKAGES" ∷ []) (turn s false) (is_at (codes "END") (codes "END") t e)
    (at_map same same (end_name (codes "BLOCKAGES")) (λ (u : Unit {0}). turn s false) (map plain_word (codes "BLOCKAGES" ∷ [])) tt (turn s false)
    (end_back (codes "BLOCKAGES") refl) (λ u eu. refl))))

one_blockage : (print : ℤ → List ℕ) → WritesNumbers print → (s : List Blockage) (b : Blockage) → IsPrintedBlockage b
    → Back same (blockage_or_end s) (codes "-" ∷ blockage_words print b) (turn (s ++ b ∷ []) true)
unfolding blockage_or_end
one_blockage print writes s b h =
    back_first same _ (codes "-") (blockage_words print b) (turn (s ++ b ∷ []) true)
    (λ t e. back_yes same (is (codes "-") t) _ _ (blockage_words print b) (turn (s ++ b ∷ []) true) (is_at (codes "-") (codes "-") t e)
    (at_map same same blockage (λ (o : Option Blockage). turn (with_blockage s o) true) (map plain_word (blockage_words print b)) (Some b)
    (turn (s ++ b ∷ []) true) (blockage_back print writes b h) (λ o eo. ap (λ (z : Option Blockage). turn (with_blockage s z) true) eo)))

blockages_turns : (print : ℤ → List ℕ) → WritesNumbers print → (bs s : List Blockage) → All IsPrintedBlockage bs
    → TurnsBack same blockage_or_end s (entries_words (blockage_words print) bs (codes "END" ∷ codes "BLOCKAGES" ∷ [])) (s ++ bs)
blockages_turns print writes [] s h = rw (append-nil s) (turns_last same blockage_or_end s s (codes "END" ∷ codes "BLOCKAGES" ∷ []) (last_blockage s))
blockages_turns print writes (b ∷ bs) s h =
    let there : (s ++ b ∷ []) ++ bs ≡ s ++ b ∷ bs = append_assoc s (b ∷ []) bs in
    then_turns blockage_or_end s (s ++ b ∷ []) (s ++ b ∷ bs) (codes "-") (blockage_words print b)
    (entries_words (blockage_words print) bs (codes "END" ∷ codes "BLOCKAGES" ∷ [])) (one_blockage print writes s b (All-head IsPrintedBlockage b bs h))
    (rw there at (blockages_turns print writes bs (s ++ b ∷ []) (All-tail IsPrintedBlockage b bs h)))

pub blockages_back : (print : ℤ → List ℕ) → WritesNumbers print → (count : List ℕ) → count ≢ codes ";" → (bs s : List Blockage) → All IsPrintedBlockage bs
    → Back same (blockages s) (section_words (codes "BLOCKAGES") count (blockage_words print) bs) (s ++ bs)
unfolding blockages
blockages_back print writes count other bs s h =
    back_bind same same to_semicolon _ (count ∷ codes ";" ∷ []) (entries_words (blockage_words print) bs (codes "END" ∷ codes "BLOCKAGES" ∷ [])) tt (s ++ bs)
    (to_semicolon_back (count ∷ []) (All-cons (λ w. w ≢ codes ";") count [] other (All-nil (λ w. w ≢ codes ";")))) (λ u eu.
    block_back same blockage_or_end s (s ++ bs) (entries_words (blockage_words print) bs (codes "END" ∷ codes "BLOCKAGES" ∷ []))
    (blockages_turns print writes bs s h))
