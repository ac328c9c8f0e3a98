-- A part of the text that is unchanged, and the remaining room.
use Rattle.std.proofs.Common.{◌≡◌, ℕ, ◌+◌, ◌<◌, List, [], ◌∷◌, ◌++◌, length, take, drop, map, sym, ap, ◌∙◌, arith, append_assoc, append-nil, length-append}
use Rattle.std.proofs.lemmas.List.{take-append-drop}
use Rattle.std.proofs.Math.Seq.{take-append_seam}
use Rattle.std.proofs.Common.{get_or, Result, Ok, Err, OnErr}
use Rattle.std.proofs.lemmas.List.Folds.{length-flat_map-take}
use Rattle.std.specs.List.{flat_map, join_with_byte}
use Rattle.lf_proto.specs.ReplyText.{spaced_line}
use Rattle.lf_proto.specs.Words.{spaced_word, word_text}
use Rattle.lf_proto.specs.declared.words.Word.{Word}

pub kept_more : (old more mid new : List ℕ) (n m : ℕ) → n ≡ length old → mid ≡ old ++ more → take m new ≡ mid → take n new ≡ old
kept_more old more mid new n m long is kept =
    let e : new ≡ old ++ (more ++ drop m new) = sym (take-append-drop m new) ∙ (ap (λ l. l ++ drop m new) (kept ∙ is) ∙ append_assoc old more (drop m new)) in
    rw long (ap (take (length old)) e ∙ take-append_seam old (more ++ drop m new))

-- a list joined by a byte is the first part, then the byte and the part for each other part
pub join_cons : {X : Type 0} (f : X → List ℕ) (c : ℕ) (first : List ℕ) (xs : List X) → join_with_byte c (first ∷ map f xs) ≡ first ++ flat_map (λ x. c ∷ f x) xs
join_cons f c first [] = sym (append-nil first)
join_cons f c first (x ∷ xs) = ap (λ l. first ++ (c ∷ l)) (join_cons f c (f x) xs)

-- a line is its first word, then a space and the word for each other word, then a line feed
pub line_is : (first : List ℕ) (words : List Word) → spaced_line (first ∷ map word_text words) ≡ first ++ flat_map spaced_word words ++ 10 ∷ []
line_is first words = ap (λ l. l ++ 10 ∷ []) (join_cons word_text 32 first words)

pub length_line : (first : List ℕ) (words : List Word) → length (spaced_line (first ∷ map word_text words)) ≡ length first + length (flat_map spaced_word words) + 1
length_line first words = rw line_is (simp length-append (omega arith))

-- if room is missing for one word, it is missing for all
pub room_for_all : (words : List Word) (w : Word) (i have len cap : ℕ) → i < length words → have ≡ len + length (flat_map spaced_word (take i words)) → cap < have + length (spaced_word (get_or words i w)) → cap < len + length (flat_map spaced_word words)
room_for_all words w i have len cap below is want = omega (arith, length-flat_map-take spaced_word words i w below)

pub line_put : (first old a b new : List ℕ) (words : List Word) → a ≡ old ++ first → b ≡ a ++ flat_map spaced_word words → new ≡ b ++ 10 ∷ [] → new ≡ old ++ spaced_line (first ∷ map word_text words)
line_put first old a b new words e f g =
    g ∙ (ap (λ l. l ++ 10 ∷ []) (f ∙ ap (λ l. l ++ flat_map spaced_word words) e) ∙ ((simp append_assoc) ∙ ap (λ l. old ++ l) (sym (line_is first words ∙ append_assoc first (flat_map spaced_word words) (10 ∷ [])))))

pub on_err_from : {T E P : Type 0} (r : Result T E) → P → OnErr r P
on_err_from (Ok x) p = tt
on_err_from (Err e) p = p
