-- The input was served to an ending.
use Rattle.std.proofs.Common.{◌≡◌, ℕ, ◌+◌, ◌-◌, Bool, true, false, List, [], ◌∷◌, ◌++◌, length, take, Option, Some, None, IfSome, refl, sym, ap, ◌∙◌, subst, arith, append_assoc, append-nil, length-append}
use Rattle.std.specs.List.{onto_first}
use Rattle.std.specs.Io.KnownBytes.{Consumes, IsAtEnd, Keeps}
use Rattle.std.proofs.lemmas.List.Splits.{slice_split-cons_yes, slice_split-cons_no}
use Rattle.lf_rules.specs.Legalizer.{Legalizer}
use Rattle.lf_proto.specs.Stream.{is_end_of_line, ended_line, lines_in, lines_of}
use Rattle.lf_floor_model.specs.States.{FloorState}
use Rattle.lf_server.specs.Devices.{Writer}
use Rattle.lf_server.specs.Exchanges.{Exchange, Line, lines}
use Rattle.lf_server.specs.Endings.{AreLinesActedOn, CountsAnswered, WritesReplies, ServesLines, ended_in, ended_lines}
use Rattle.lf_server.specs.declared.serve_loop.Ending.{Ending}
use Rattle.lf_server.specs.declared.serve_loop.Ending.TheVariants.{Done, Bye, ReadFault, WriteFault, TooManyLines, OutOfMemory}
use Rattle.lf_server.specs.declared.serve_loop.Served.{Served}
use Rattle.lf_proto.specs.Pieces.{lines_from, between_line_feeds}
use Rattle.lf_server.specs.Progress.{FinishesServing, ContinuesServing, StopsServing, StopsServingAt, answered_count}
use Rattle.lf_io.proofs.Known.{Consumes-none, Consumes-more, Consumes-kept}
use Rattle.lf_proto.proofs.Cuttings.{some_pieces, with_front-nil}
use Rattle.lf_server.proofs.Steps.{goes_join, goes_none, goes_stop}

-- ---- the lines that have their line feed

-- One more line feed ends one more piece.
snoc_by : (b : ℕ) (rest : List ℕ) (ends : Bool) → is_end_of_line b ≡ ends → between_line_feeds (rest ++ 10 ∷ []) ≡ between_line_feeds rest ++ [] ∷ [] → between_line_feeds (b ∷ (rest ++ 10 ∷ [])) ≡ between_line_feeds (b ∷ rest) ++ [] ∷ []
snoc_by b rest true is ih =
    slice_split-cons_yes is_end_of_line b (rest ++ 10 ∷ []) is ∙ (ap (λ (l : List (List ℕ)). [] ∷ l) ih ∙ ap (λ (l : List (List ℕ)). l ++ [] ∷ []) (sym (slice_split-cons_yes is_end_of_line b rest is)))
snoc_by b rest false is ih =
    let front : onto_first b (between_line_feeds rest ++ [] ∷ []) ≡ onto_first b (between_line_feeds rest) ++ [] ∷ [] = some_pieces (λ parts. onto_first b (parts ++ [] ∷ []) ≡ onto_first b parts ++ [] ∷ []) rest (λ p more. refl) in
    slice_split-cons_no is_end_of_line b (rest ++ 10 ∷ []) is ∙ (ap (onto_first b) ih ∙ (front ∙ ap (λ (l : List (List ℕ)). l ++ [] ∷ []) (sym (slice_split-cons_no is_end_of_line b rest is))))

pieces-snoc : (bytes : List ℕ) → between_line_feeds (bytes ++ 10 ∷ []) ≡ between_line_feeds bytes ++ [] ∷ []
pieces-snoc [] = refl
pieces-snoc (b ∷ rest) = snoc_by b rest (is_end_of_line b) refl (pieces-snoc rest)

-- The last piece and its line, if a line feed followed.
ended-snoc : (p : List ℕ) (parts : List (List ℕ)) → (last : Line) × (lines_in ((p ∷ parts) ++ [] ∷ []) ≡ ended_in (p ∷ parts) ++ last ∷ [])
ended-snoc p [] = (ended_line p, refl)
ended-snoc p (q ∷ parts) = let h = ended-snoc q parts in (h.0, ap (λ (t : List Line). ended_line p ∷ t) h.1)

ended_lines-snoc : (bytes : List ℕ) → (last : Line) × (lines_of (bytes ++ 10 ∷ []) ≡ ended_lines bytes ++ last ∷ [])
ended_lines-snoc bytes =
    let h = some_pieces (λ parts. (last : Line) × (lines_in (parts ++ [] ∷ []) ≡ ended_in parts ++ last ∷ [])) bytes ended-snoc in
    (h.0, ap lines_in (pieces-snoc bytes) ∙ h.1)

snoc_cancel : {A : Type 0} (xs ys : List A) (a b : A) → xs ++ a ∷ [] ≡ ys ++ b ∷ [] → xs ≡ ys
snoc_cancel [] [] a b e = refl
snoc_cancel [] (y ∷ []) a b e = cc
snoc_cancel [] (y ∷ z ∷ ys) a b e = cc
snoc_cancel (x ∷ []) [] a b e = cc
snoc_cancel (x ∷ z ∷ xs) [] a b e = cc
snoc_cancel (x ∷ xs) (y ∷ ys) a b e =
    let heads : x ≡ y = cc in
    let tails : xs ++ a ∷ [] ≡ ys ++ b ∷ [] = cc in
    let same : xs ≡ ys = snoc_cancel xs ys a b tails in cc

held_ends : (held : Option (List ℕ)) → (last : Line) × (lines_from held (between_line_feeds (10 ∷ [])) ≡ last ∷ [])
held_ends None = (None, refl)
held_ends (Some bytes) = (ended_line (bytes ++ []), refl)

from_start : (bytes : List ℕ) → lines_from (Some []) (between_line_feeds bytes) ≡ lines_of bytes
from_start bytes = ap lines_in (with_front-nil bytes)

-- The lines acted on are those that have their line feed.
ended_are : (l : Legalizer) (w v : Writer) (p q : ℕ) (old mid : FloorState) (held : Option (List ℕ)) (read : List ℕ) (first : ContinuesServing l w v p q old mid (Some []) held read []) → lines first.done ≡ ended_lines read
ended_are l w v p q old mid held read first =
    let a = held_ends held in
    let b = ended_lines-snoc read in
    snoc_cancel (lines first.done) (ended_lines read) a.0 b.0
    (sym (ap (λ (t : List Line). lines first.done ++ t) a.1) ∙ (sym (first.goes_on (10 ∷ [])) ∙ (from_start (read ++ 10 ∷ []) ∙ b.1)))

-- ---- the endings

acted_is : (e : Ending) (limit : ℕ) (all whole acted : List Line) → StopsServingAt e limit all acted → AreLinesActedOn e limit all whole acted
acted_is Done limit all whole acted stops = stops
acted_is Bye limit all whole acted stops = stops
acted_is TooManyLines limit all whole acted stops = stops
acted_is WriteFault limit all whole acted stops = stops
acted_is ReadFault limit all whole acted stops = absurd stops
acted_is OutOfMemory limit all whole acted stops = absurd stops

-- The bytes of the input, if known, are those read and then the rest.
abbrev IsInput : Option (List ℕ) → List ℕ → List ℕ → Type 0
IsInput input read rest = IfSome input (λ bytes. bytes ≡ read ++ rest)

finishes_by : (l : Legalizer) (e : Ending) (a c : Option (List ℕ)) (w u : Writer) (p r : ℕ) (old new : FloorState) (read rest : List ℕ) → Consumes a c read → IsInput a read rest
    → StopsServing l e w u p r old new (lines_from (Some []) (between_line_feeds (read ++ rest))) → FinishesServing l e a c w u p r old new
finishes_by l e a c w u p r old new read rest consumed input stops = record {
  read = read;
  reads = consumed;
  done = stops.done;
  comes = stops.comes;
  counts = stops.counts;
  acted_on = by a input;
}
  where
    by : (o : Option (List ℕ)) → IsInput o read rest → IfSome o (λ bytes. AreLinesActedOn e p (lines_of bytes) (ended_lines read) (lines stops.done))
    by None is = tt
    by (Some bytes) is =
        acted_is e p (lines_of bytes) (ended_lines read) (lines stops.done)
        (subst (λ (all : List Line). StopsServingAt e p all (lines stops.done)) (from_start (read ++ rest) ∙ ap lines_of (sym is)) stops.stops)

pub finishes_stop : (l : Legalizer) (e : Ending) (a c : Option (List ℕ)) (w u : Writer) (p r : ℕ) (old new : FloorState) (read : List ℕ) → Consumes a c read
    → ((rest : List ℕ) → StopsServing l e w u p r old new (lines_from (Some []) (between_line_feeds (read ++ rest)))) → FinishesServing l e a c w u p r old new
finishes_stop l e None c w u p r old new read consumed stops = finishes_by l e None c w u p r old new read [] consumed tt (stops [])
finishes_stop l e (Some x) None w u p r old new read consumed stops = absurd consumed
finishes_stop l e (Some x) (Some y) w u p r old new read consumed stops = finishes_by l e (Some x) (Some y) w u p r old new read y consumed consumed (stops y)

-- The read that found a stop.
pub read_stop : (l : Legalizer) (e : Ending) (a b c : Option (List ℕ)) (w v u : Writer) (p q r : ℕ) (old mid new : FloorState) (held : Option (List ℕ)) (read piece : List ℕ) → Consumes a b read → Consumes b c piece
    → ContinuesServing l w v p q old mid (Some []) held read [] → ((rest : List ℕ) → StopsServing l e v u q r mid new (lines_from held (between_line_feeds (piece ++ rest)))) → FinishesServing l e a c w u p r old new
read_stop l e a b c w v u p q r old mid new held read piece before now first second =
    finishes_stop l e a c w u p r old new (read ++ piece) (Consumes-more a b c read piece before now)
    (λ rest. subst (λ (x : List ℕ). StopsServing l e w u p r old new (lines_from (Some []) (between_line_feeds x))) (sym (append_assoc read piece rest))
    (goes_stop l e w v u p q r old mid new (Some []) held read [] (piece ++ rest) first (second rest)))

-- The read that found the end of the input.
pub read_end : (l : Legalizer) (e : Ending) (a b c : Option (List ℕ)) (w v u : Writer) (p q r : ℕ) (old mid new : FloorState) (held : Option (List ℕ)) (read buffer : List ℕ) (count : ℕ) → count ≡ 0
    → Consumes a b read → Consumes b c (take count buffer) → IsAtEnd c
    → ContinuesServing l w v p q old mid (Some []) held read [] → StopsServing l e v u q r mid new (lines_from held ([] ∷ [])) → FinishesServing l e a c w u p r old new
read_end l e a b c w v u p q r old mid new held read buffer count none before now end first second =
    let whole : Consumes a c read = subst (Consumes a c) (ap (λ (n : ℕ). read ++ take n buffer) none ∙ append-nil read) (Consumes-more a b c read (take count buffer) before now) in
    finishes_by l e a c w u p r old new read [] whole (all a c whole end) (goes_stop l e w v u p q r old mid new (Some []) held read [] [] first second)
  where
    all : (o m : Option (List ℕ)) → Consumes o m read → IsAtEnd m → IsInput o read []
    all None m consumed at_end = tt
    all (Some x) None consumed at_end = absurd consumed
    all (Some x) (Some y) consumed at_end = consumed ∙ ap (λ (t : List ℕ). read ++ t) at_end

-- One more read.
pub read_on : (l : Legalizer) (a b c : Option (List ℕ)) (w v u : Writer) (p q r : ℕ) (old mid new : FloorState) (held held' : Option (List ℕ)) (read piece : List ℕ) → Consumes a b read → Consumes b c piece
    → ContinuesServing l w v p q old mid (Some []) held read [] → ContinuesServing l v u q r mid new held held' piece [] → (x : List ℕ) × Consumes a c x × ContinuesServing l w u p r old new (Some []) held' x []
read_on l a b c w v u p q r old mid new held held' read piece before now first second = (
  read ++ piece,
  Consumes-more a b c read piece before now,
  goes_join l w v u p q r old mid new (Some []) held held' (read ++ piece) piece []
      (record {
        done = first.done;
        exchanged = first.exchanged;
        counts = first.counts;
        no_bye = first.no_bye;
        goes_on = λ rest. ap (λ (x : List ℕ). lines_from (Some []) (between_line_feeds x)) (append_assoc read piece rest) ∙ first.goes_on (piece ++ rest);
      })
      second,
)

-- No more can be read.
pub read_fault : (l : Legalizer) (a b c : Option (List ℕ)) (w v : Writer) (p q : ℕ) (old mid : FloorState) (held : Option (List ℕ)) (read : List ℕ) → Consumes a b read → Keeps b c
    → ContinuesServing l w v p q old mid (Some []) held read [] → FinishesServing l ReadFault a c w v p q old mid
read_fault l a b c w v p q old mid held read before kept first = record {
  read = read;
  reads = Consumes-kept a b c read before kept;
  done = first.done;
  comes = first.exchanged;
  counts = first.counts;
  acted_on = by a;
}
  where
    by : (o : Option (List ℕ)) → IfSome o (λ bytes. AreLinesActedOn ReadFault p (lines_of bytes) (ended_lines read) (lines first.done))
    by None = tt
    by (Some bytes) = (ended_are l w v p q old mid held read first, first.no_bye)

pub keeps_itself : (a : Option (List ℕ)) → Keeps a a
keeps_itself None = tt
keeps_itself (Some x) = refl

pub goes_start : (l : Legalizer) (w : Writer) (left : ℕ) (floor : FloorState) (held : Option (List ℕ)) → held ≡ Some [] → ContinuesServing l w w left left floor floor (Some []) held [] []
goes_start l w left floor held fresh = subst (λ (h : Option (List ℕ)). ContinuesServing l w w left left floor floor (Some []) h [] []) (sym fresh) (goes_none l w left floor (Some []) [])

-- ---- what is written

pub finishes_none : (l : Legalizer) (a : Option (List ℕ)) (w : Writer) (limit : ℕ) (floor : FloorState) → FinishesServing l OutOfMemory a a w w limit limit floor floor
finishes_none l a w limit floor = record {
  read = [];
  reads = Consumes-none a;
  done = [];
  comes = (refl, refl);
  counts = omega arith;
  acted_on = by a;
}
  where
    by : (o : Option (List ℕ)) → IfSome o (λ bytes. AreLinesActedOn OutOfMemory limit (lines_of bytes) (ended_lines []) [])
    by None = tt
    by (Some bytes) = refl

answered_is : (e : Ending) (l : Legalizer) (old new : FloorState) (w u : Writer) (done : List Exchange) (count answered : ℕ) → WritesReplies e l old w done new u
    → length done ≡ count → answered ≡ answered_count e count → CountsAnswered e count answered
answered_is Done l old new w u done count answered comes counts is = is
answered_is Bye l old new w u done count answered comes counts is = is
answered_is TooManyLines l old new w u done count answered comes counts is = is
answered_is ReadFault l old new w u done count answered comes counts is = is
answered_is OutOfMemory l old new w u done count answered comes counts is = is
answered_is WriteFault l old new w u done count answered comes counts is =
    let some : length done ≡ length comes.earlier + 1 = ap length comes.done_are ∙ length-append comes.earlier (comes.last ∷ []) in
    omega (arith, some, counts, is)

pub served_as : (l : Legalizer) (e : Ending) (a c : Option (List ℕ)) (w u : Writer) (limit left count : ℕ) (old new : FloorState) (s : Served) → count ≡ limit - left → s.lines ≡ count → s.ending ≡ e → s.answered ≡ answered_count e count
    → FinishesServing l e a c w u limit left old new → ServesLines l limit old a c w u s new
served_as l e a c w u limit left count old new s is counted ending answered first =
    let h : FinishesServing l s.ending a c w u limit left old new = subst (λ (x : Ending). FinishesServing l x a c w u limit left old new) (sym ending) first in
    let same : s.lines ≡ length h.done = omega (arith, is, counted, h.counts) in
    let reported : s.answered ≡ answered_count s.ending s.lines = answered ∙ (ap (λ (x : Ending). answered_count x count) (sym ending) ∙ ap (answered_count s.ending) (sym counted)) in
    record {
      read = h.read;
      reads = h.reads;
      done = h.done;
      comes = h.comes;
      acted_on = h.acted_on;
      counted = same;
      answered = answered_is s.ending l old new w u h.done s.lines s.answered h.comes (sym same) reported;
      within = omega (arith, is, counted);
    }
