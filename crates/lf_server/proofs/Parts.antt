-- Texts sent in parts.
use Rattle.std.proofs.Common.{◌≡◌, ℕ, ◌+◌, List, [], ◌∷◌, ◌++◌, length, min, take, Option, refl, sym, ◌∙◌, subst, append-nil, Result, Ok, Err, arith}
use Rattle.std.specs.Prelude.{OnErr, codes, decimal}
use Rattle.std.specs.Io.KnownBytes.{Appends}
use Rattle.std.proofs.Math.Seq.{take-append-add}
use Rattle.std.proofs.lemmas.List.{take-append-le, take_min}
use Rattle.lf_io.proofs.Known.{Appends-more}
use Rattle.lf_proto.specs.declared.reply.Reply.{Reply}
use Rattle.lf_proto.specs.declared.reply.Reply.TheVariants.{Report, Def}
use Rattle.lf_proto.specs.ReplyText.{spaced_line}
use Rattle.lf_floor_model.specs.States.{FloorState}
use Rattle.lf_floor.specs.Responses.{def_text, reply_in}
use Rattle.lf_floor.specs.declared.response.Response.{Response}
use Rattle.lf_floor.specs.declared.response.Response.TheVariants.{DefText}
use Rattle.lf_server.specs.Exchanges.{reply_text_of}

-- A front of the bytes was written.
abbrev pub Front : Option (List ℕ) → Option (List ℕ) → List ℕ → Type 0
Front a b bytes = (n : ℕ) × Appends a b (take n bytes)

-- A front of the first part is a front of the whole.
pub first_front : (a b : Option (List ℕ)) (x y : List ℕ) → Front a b x → Front a b (x ++ y)
first_front a b x y (n, written) =
    (min n (length x), subst (Appends a b) (sym (take-append-le (min n (length x)) x y (omega arith) ∙ take_min n x)) written)

pub front_first : {T E : Type 0} (r : Result T E) (a b : Option (List ℕ)) (x y : List ℕ) → Front a b x → OnErr r (Front a b (x ++ y))
front_first (Ok t) a b x y front = tt
front_first (Err e) a b x y front = first_front a b x y front

-- The first part and a front of the second are a front of the whole.
pub front_after_it : (a b c : Option (List ℕ)) (x y : List ℕ) → Appends a b x → Front b c y → Front a c (x ++ y)
front_after_it a b c x y first (n, written) =
    (length x + n, subst (Appends a c) (sym (take-append-add x y n)) (Appends-more a b c x (take n y) first written))

pub front_after : {T E : Type 0} (r : Result T E) (a b c : Option (List ℕ)) (x y : List ℕ) → Appends a b x → OnErr r (Front b c y)
    → OnErr r (Front a c (x ++ y))
front_after (Ok t) a b c x y first front = tt
front_after (Err e) a b c x y first front = front_after_it a b c x y first front

-- The parts of a report's text.
pub report_parts : (floor : FloorState) (team : List ℕ) (reply : Reply) (text bytes : List ℕ) → reply ≡ Report text → bytes ≡ text
    → (codes "ok " ++ bytes) ++ codes "\n" ≡ reply_text_of floor team reply
report_parts floor team reply text bytes is shown = rw (is, shown) (sym (append-nil (spaced_line (codes "ok" ∷ text ∷ []))))

-- The parts of a DEF text.
pub def_parts : (floor : FloorState) (team : List ℕ) (reply : Reply) (text line counted bytes : List ℕ) → reply ≡ Def text → counted ≡ text
    → line ≡ spaced_line (codes "ok" ∷ decimal (length counted) ∷ []) → bytes ≡ text → line ++ bytes ≡ reply_text_of floor team reply
def_parts floor team reply text line counted bytes is same line_is shown = rw (is, line_is, same, shown) refl

-- The line in front of a DEF text that is written in chunks, and the text.
pub response_parts : (floor : FloorState) (team : List ℕ) (response : Response) (count : ℕ) (line : List ℕ) → response ≡ DefText count
    → count ≡ length (def_text floor team) → line ≡ spaced_line (codes "ok" ∷ decimal count ∷ [])
    → line ++ def_text floor team ≡ reply_text_of floor team (reply_in floor team response)
response_parts floor team response count line is counted line_is = rw (is, line_is, counted) refl
