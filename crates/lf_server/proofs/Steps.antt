-- Steps of serving, one after another.
use Rattle.std.proofs.Common.{◌≡◌, ◌≢◌, ℕ, suc, ◌+◌, ◌-◌, ◌≤◌, Bool, true, false, List, [], ◌∷◌, ◌++◌, length, take, drop, Option, Some, None, inl, inr, refl, sym, ap, ◌∙◌, subst, arith, append_assoc, length-append, Result, Ok, Err}
use Rattle.std.specs.Prelude.{MatchOption, OnOk, OnErr, is_err}
use Rattle.std.proofs.lemmas.Bool.{false≢true}
use Rattle.std.proofs.lemmas.List.{map-append, take_all, length-drop, drop-drop, drop_all}
use Rattle.std.proofs.lemmas.List.Elements.{All-append, All-cons, All-nil}
use Rattle.std.specs.Io.KnownBytes.{Appends}
use Rattle.lf_floorplan.specs.declared.place.Place.{Place}
use Rattle.lf_rules.specs.Legalizer.{Legalizer}
use Rattle.lf_proto.specs.declared.framer.Fed.{Fed}
use Rattle.lf_proto.specs.declared.framer.Got.{Got}
use Rattle.lf_proto.specs.declared.framer.Got.TheVariants.{More}
use Rattle.lf_proto.specs.declared.reply.Reply.{Reply}
use Rattle.lf_proto.specs.declared.request.Command.{Command}
use Rattle.lf_proto.specs.Feeds.{Feeds, FinishesAt, given_line}
use Rattle.lf_proto.specs.Framing.{Framing}
use Rattle.lf_floor_model.specs.States.{FloorState}
use Rattle.lf_server.specs.Connections.{KeepsDesign}
use Rattle.lf_server.specs.Devices.{Writer, writer, SendsText, BreaksText}
use Rattle.lf_server.specs.Exchanges.{AnswersTo, BreaksOffLastReply, Exchange, AnswersLines, Line, requested_on, is_bye, lines, reply_text_of}
use Rattle.lf_server.specs.Endings.{WritesReplies, EndsAt, NoneIsBye}
use Rattle.lf_server.specs.declared.serve_loop.Ending.{Ending}
use Rattle.lf_server.specs.declared.serve_loop.Ending.TheVariants.{Done, Bye, ReadFault, WriteFault, TooManyLines, OutOfMemory}
use Rattle.lf_proto.specs.Pieces.{lines_from, between_line_feeds}
use Rattle.lf_server.specs.Progress.{ExchangeEnds, IsGivenLine, ContinuesServing, IsAnswered, ActsOnLine, StopsServing, StopsServingAt, team_requested}
use Rattle.lf_proto.proofs.Cuttings.{IsBounded, feed_step, finish_gives}

-- ---- results

pub on_err_yes : {T E P : Type 0} (r : Result T E) → is_err r ≡ true → OnErr r P → P
on_err_yes (Ok x) e p = absurd (false≢true e)
on_err_yes (Err x) e p = p

pub on_ok_no : {T E P : Type 0} (r : Result T E) → is_err r ≡ false → OnOk r P → P
on_ok_no (Ok x) e p = p
on_ok_no (Err x) e p = absurd (false≢true (sym e))

-- ---- what is written

pub sends_one : (a a' : Option (List ℕ)) (f f' h h' : Bool) (text : List ℕ) → Appends a a' text → f' ≡ true → h' ≡ h
    → SendsText (writer a f h) (writer a' f' h') text
sends_one a a' f f' h h' text appends flushed healthy = record { written = appends; flushed = flushed; healthy = healthy }

pub breaks_one : (a a' : Option (List ℕ)) (f f' h h' : Bool) (text : List ℕ) → (n : ℕ) × Appends a a' (take n text) → h' ≡ true
    → BreaksText (writer a f h) (writer a' f' h') text
breaks_one a a' f f' h h' text front failed = record { count = front.0; written = front.1; failed = failed }

-- ---- what stays

pub stays_none : (floor : FloorState) → KeepsDesign floor floor
stays_none floor = record { frame = refl; components = refl; legal = λ legal. legal }

pub stays_join : (old mid new : FloorState) → KeepsDesign old mid → KeepsDesign mid new → KeepsDesign old new
stays_join old mid new first second = record {
  frame = second.frame ∙ first.frame;
  components = second.components ∙ first.components;
  legal = λ legal. second.legal (first.legal legal);
}

-- ---- line after line

pub exchanges_join : (l : Legalizer) (old mid new : FloorState) (w v u : Writer) (s t : List Exchange)
    → AnswersLines l old w s mid v → AnswersLines l mid v t new u → AnswersLines l old w (s ++ t) new u
exchanges_join l old mid new w v u [] t (floor, same) second =
    subst (λ (f : FloorState). AnswersLines l f w t new u) floor (subst (λ (x : Writer). AnswersLines l mid x t new u) same second)
exchanges_join l old mid new w v u (e ∷ s) t (middle, between, answers, sends, later) second =
    (middle, between, answers, sends, exchanges_join l middle mid new between v u s t later second)

breaks_join : (l : Legalizer) (old mid new : FloorState) (w v u : Writer) (s t : List Exchange)
    → AnswersLines l old w s mid v → BreaksOffLastReply l mid v t new u → BreaksOffLastReply l old w (s ++ t) new u
breaks_join l old mid new w v u s t first second = record {
  earlier = s ++ second.earlier;
  last = second.last;
  mid = second.mid;
  between = second.between;
  done_are = ap (λ (x : List Exchange). s ++ x) second.done_are ∙ sym (append_assoc s second.earlier (second.last ∷ []));
  exchanged = exchanges_join l old mid second.mid w v second.between s second.earlier first second.exchanged;
  answers = second.answers;
  breaks = second.breaks;
}

comes_after : (e : Ending) (l : Legalizer) (old mid new : FloorState) (w v u : Writer) (s t : List Exchange)
    → AnswersLines l old w s mid v → WritesReplies e l mid v t new u → WritesReplies e l old w (s ++ t) new u
comes_after Done l old mid new w v u s t first second = exchanges_join l old mid new w v u s t first second
comes_after Bye l old mid new w v u s t first second = exchanges_join l old mid new w v u s t first second
comes_after TooManyLines l old mid new w v u s t first second = exchanges_join l old mid new w v u s t first second
comes_after ReadFault l old mid new w v u s t first second = exchanges_join l old mid new w v u s t first second
comes_after OutOfMemory l old mid new w v u s t first second = exchanges_join l old mid new w v u s t first second
comes_after WriteFault l old mid new w v u s t first second = breaks_join l old mid new w v u s t first second

-- ---- which lines are acted on

abbrev pub ends_after : (a all acted : List Line) → NoneIsBye a → EndsAt all acted → EndsAt (a ++ all) (a ++ acted)
ends_after a all acted none e = record {
  before = a ++ e.before;
  last = e.last;
  rest = e.rest;
  all_are = ap (λ (l : List Line). a ++ l) e.all_are ∙ sym (append_assoc a acted e.rest);
  acted_are = ap (λ (l : List Line). a ++ l) e.acted_are ∙ sym (append_assoc a e.before (e.last ∷ []));
  none_before = All-append (λ line. is_bye line ≡ false) a e.before none e.none_before;
}

acted_after : (e : Ending) (limit mid : ℕ) (a all acted : List Line) → limit ≡ length a + mid → NoneIsBye a → StopsServingAt e mid all acted
    → StopsServingAt e limit (a ++ all) (a ++ acted)
acted_after Done limit mid a all acted counts none (is, rest) =
    (ap (λ (l : List Line). a ++ l) is, All-append (λ line. is_bye line ≡ false) a acted none rest)
acted_after Bye limit mid a all acted counts none (ends, bye) = (ends_after a all acted none ends, bye)
acted_after TooManyLines limit mid a all acted counts none stops = record {
  next = stops.next;
  rest = stops.rest;
  all_are = ap (λ (l : List Line). a ++ l) stops.all_are ∙ sym (append_assoc a acted (stops.next ∷ stops.rest));
  full = omega (arith, length-append a acted, counts, stops.full);
  none = All-append (λ line. is_bye line ≡ false) a acted none stops.none;
}
acted_after ReadFault limit mid a all acted counts none stops = absurd stops
acted_after OutOfMemory limit mid a all acted counts none stops = absurd stops
acted_after WriteFault limit mid a all acted counts none ends = ends_after a all acted none ends

-- ---- lines and exchanges

lines_join : (s t : List Exchange) → lines (s ++ t) ≡ lines s ++ lines t
lines_join s t = map-append (λ (e : Exchange). e.line) s t

lines_length : (s : List Exchange) → length (lines s) ≡ length s
lines_length [] = refl
lines_length (e ∷ s) = ap suc (lines_length s)

-- ---- one exchange

pub exchanged : (l : Legalizer) (stop : Option Ending) (w w' : Writer) (old new : FloorState) (line : Line) (requested : Option (Command (List ℕ) Place)) (reply : Reply) (team : List ℕ)
    → requested ≡ requested_on line → team ≡ team_requested requested → ExchangeEnds stop w w' line (reply_text_of new team reply) → IsAnswered l old requested reply new
    → ActsOnLine l stop w w' old new line
exchanged l stop w w' old new line requested reply team is own ends answered = record {
  reply = reply;
  text = reply_text_of new team reply;
  answers = subst (λ (o : Option (Command (List ℕ) Place)). AnswersTo l old o reply (reply_text_of new team reply) new) is
      (subst (λ (t : List ℕ). AnswersTo l old requested reply (reply_text_of new t reply) new) (sym own) answered);
  ends = ends;
}

abbrev reported : (l : Legalizer) (stop : Option Ending) (w w' : Writer) (old new : FloorState) (line : Line) → ActsOnLine l stop w w' old new line → Exchange
reported l stop w w' old new line e = record { line = line; reply = e.reply; text = e.text }

-- ---- continuing

pub goes_none : (l : Legalizer) (w : Writer) (left : ℕ) (floor : FloorState) (held : Option (List ℕ)) (bytes : List ℕ)
    → ContinuesServing l w w left left floor floor held held bytes bytes
goes_none l w left floor held bytes = record {
  done = [];
  exchanged = (refl, refl);
  counts = omega arith;
  no_bye = All-nil (λ (line : Line). is_bye line ≡ false);
  goes_on = λ rest. refl;
}

-- One part after another.
pub goes_join : (l : Legalizer) (w v u : Writer) (p q r : ℕ) (old mid new : FloorState) (a b c : Option (List ℕ)) (x y z : List ℕ)
    → ContinuesServing l w v p q old mid a b x y → ContinuesServing l v u q r mid new b c y z → ContinuesServing l w u p r old new a c x z
goes_join l w v u p q r old mid new a b c x y z first second = record {
  done = first.done ++ second.done;
  exchanged = exchanges_join l old mid new w v u first.done second.done first.exchanged second.exchanged;
  counts = omega (arith, length-append first.done second.done, first.counts, second.counts);
  no_bye = subst NoneIsBye (sym (lines_join first.done second.done))
      (All-append (λ (line : Line). is_bye line ≡ false) (lines first.done) (lines second.done) first.no_bye second.no_bye);
  goes_on = λ rest. first.goes_on rest ∙ (ap (λ (t : List Line). lines first.done ++ t) (second.goes_on rest)
      ∙ (sym (append_assoc (lines first.done) (lines second.done) (lines_from c (between_line_feeds (z ++ rest))))
      ∙ ap (λ (t : List Line). t ++ lines_from c (between_line_feeds (z ++ rest))) (sym (lines_join first.done second.done))));
}

-- Then serving stops, at the lines that follow.
stops_after : (l : Legalizer) (ending : Ending) (w v u : Writer) (p q r : ℕ) (old mid new : FloorState) (done : List Exchange) (all : List Line)
    → AnswersLines l old w done mid v → p ≡ length done + q → NoneIsBye (lines done) → StopsServing l ending v u q r mid new all
    → StopsServing l ending w u p r old new (lines done ++ all)
stops_after l ending w v u p q r old mid new done all exchanged counts none second = record {
  done = done ++ second.done;
  comes = comes_after ending l old mid new w v u done second.done exchanged second.comes;
  counts = omega (arith, length-append done second.done, counts, second.counts);
  stops = subst (StopsServingAt ending p (lines done ++ all)) (sym (lines_join done second.done))
      (acted_after ending p q (lines done) all (lines second.done) (counts ∙ ap (λ n. n + q) (sym (lines_length done))) none second.stops);
}

pub goes_stop : (l : Legalizer) (ending : Ending) (w v u : Writer) (p q r : ℕ) (old mid new : FloorState) (a b : Option (List ℕ)) (x y rest : List ℕ)
    → ContinuesServing l w v p q old mid a b x y → StopsServing l ending v u q r mid new (lines_from b (between_line_feeds (y ++ rest))) → StopsServing l ending w u p r old new (lines_from a (between_line_feeds (x ++ rest)))
goes_stop l ending w v u p q r old mid new a b x y rest first second =
    subst (StopsServing l ending w u p r old new) (sym (first.goes_on rest))
    (stops_after l ending w v u p q r old mid new first.done (lines_from b (between_line_feeds (y ++ rest))) first.exchanged first.counts first.no_bye second)

-- ---- one line of a piece

given_is : (got : Got) (bytes : List ℕ) (line : Line) → IsGivenLine got bytes line → given_line got bytes ≡ line ∷ []
given_is got bytes line (inl (is, same)) = rw (is, same) refl
given_is got bytes line (inr (is, same)) = rw (is, same) refl

pub goes_more : (l : Legalizer) (w : Writer) (left : ℕ) (floor : FloorState) (old new : Framing) (piece : List ℕ) (fed : Fed) → Feeds old piece fed new → fed.got ≡ More
    → ContinuesServing l w w left left floor floor old.pending new.pending piece (drop fed.used piece)
goes_more l w left floor old new piece fed feeds more = record {
  done = [];
  exchanged = (refl, refl);
  counts = omega arith;
  no_bye = All-nil (λ (line : Line). is_bye line ≡ false);
  goes_on = λ rest. (feed_step old new piece rest fed feeds).0 ∙ ap (λ (got : Got). given_line got new.line ++ lines_from new.pending (between_line_feeds (drop fed.used piece ++ rest))) more;
}

-- The line is the first of the rest.
next_line : (old new : Framing) (piece rest : List ℕ) (fed : Fed) (line : Line) → Feeds old piece fed new → IsGivenLine fed.got new.line line
    → lines_from old.pending (between_line_feeds (piece ++ rest)) ≡ line ∷ lines_from new.pending (between_line_feeds (drop fed.used piece ++ rest))
next_line old new piece rest fed line feeds is =
    (feed_step old new piece rest fed feeds).0 ∙ ap (λ (t : List Line). t ++ lines_from new.pending (between_line_feeds (drop fed.used piece ++ rest))) (given_is fed.got new.line line is)

pub stops_full : (l : Legalizer) (w : Writer) (left : ℕ) (floor : FloorState) (line : Line) (more : List Line) → left ≡ 0
    → StopsServing l TooManyLines w w left left floor floor (line ∷ more)
stops_full l w left floor line more none = record {
  done = [];
  comes = (refl, refl);
  counts = omega arith;
  stops = record { next = line; rest = more; all_are = refl; full = sym none; none = All-nil (λ (line : Line). is_bye line ≡ false) };
}

pub full_line : (l : Legalizer) (w : Writer) (left : ℕ) (floor : FloorState) (old new : Framing) (piece rest : List ℕ) (fed : Fed) (line : Line) → left ≡ 0 → Feeds old piece fed new → IsGivenLine fed.got new.line line
    → StopsServing l TooManyLines w w left left floor floor (lines_from old.pending (between_line_feeds (piece ++ rest)))
full_line l w left floor old new piece rest fed line none feeds is =
    subst (StopsServing l TooManyLines w w left left floor floor) (sym (next_line old new piece rest fed line feeds is))
    (stops_full l w left floor line (lines_from new.pending (between_line_feeds (drop fed.used piece ++ rest))) none)

-- The line is the last one acted on.
abbrev pub last_line : (line : Line) (more : List Line) → EndsAt (line ∷ more) (line ∷ [])
last_line line more =
    record { before = []; last = line; rest = more; all_are = refl; acted_are = refl; none_before = All-nil (λ (line : Line). is_bye line ≡ false) }

stops_line : (l : Legalizer) (ending : Ending) (w w' : Writer) (left : ℕ) (old new : FloorState) (line : Line) (more : List Line) → left ≢ 0
    → ActsOnLine l (Some ending) w w' old new line → StopsServing l ending w w' left (left - 1) old new (line ∷ more)
stops_line l Done w w' left old new line more some e = absurd e.ends
stops_line l ReadFault w w' left old new line more some e = absurd e.ends
stops_line l TooManyLines w w' left old new line more some e = absurd e.ends
stops_line l OutOfMemory w w' left old new line more some e = absurd e.ends
stops_line l Bye w w' left old new line more some e = record {
  done = reported l (Some Bye) w w' old new line e ∷ [];
  comes = (new, w', e.answers, e.ends.0, (refl, refl));
  counts = omega (arith, some);
  stops = (last_line line more, e.ends.1);
}
stops_line l WriteFault w w' left old new line more some e = record {
  done = reported l (Some WriteFault) w w' old new line e ∷ [];
  comes = record {
    earlier = [];
    last = reported l (Some WriteFault) w w' old new line e;
    mid = old;
    between = w;
    done_are = refl;
    exchanged = (refl, refl);
    answers = e.answers;
    breaks = e.ends;
  };
  counts = omega (arith, some);
  stops = last_line line more;
}

pub after_exchange : (l : Legalizer) (stop : Option Ending) (w w' : Writer) (left : ℕ) (old new : FloorState) (from to : Framing) (piece : List ℕ) (fed : Fed) (line : Line)
    → left ≢ 0 → Feeds from piece fed to → IsGivenLine fed.got to.line line → ActsOnLine l stop w w' old new line
    → MatchOption stop (ContinuesServing l w w' left (left - 1) old new from.pending to.pending piece (drop fed.used piece))
    (λ ending. (rest : List ℕ) → StopsServing l ending w w' left (left - 1) old new (lines_from from.pending (between_line_feeds (piece ++ rest))))
after_exchange l None w w' left old new from to piece fed line some feeds is e = record {
  done = reported l None w w' old new line e ∷ [];
  exchanged = (new, w', e.answers, e.ends.0, (refl, refl));
  counts = omega (arith, some);
  no_bye = All-cons (λ (line : Line). is_bye line ≡ false) line [] e.ends.1 (All-nil (λ (line : Line). is_bye line ≡ false));
  goes_on = λ rest. next_line from to piece rest fed line feeds is;
}
after_exchange l (Some ending) w w' left old new from to piece fed line some feeds is e = λ rest.
    subst (StopsServing l ending w w' left (left - 1) old new) (sym (next_line from to piece rest fed line feeds is))
    (stops_line l ending w w' left old new line (lines_from to.pending (between_line_feeds (drop fed.used piece ++ rest))) some e)

-- ---- the end of the input

last_is : (held : Option (List ℕ)) (got : Got) (bytes : List ℕ) (line : Line) → IsBounded held → FinishesAt held got bytes → IsGivenLine got bytes line → lines_from held ([] ∷ []) ≡ line ∷ []
last_is held got bytes line within finishes is = finish_gives held got bytes within finishes ∙ given_is got bytes line is

pub finish_full : (l : Legalizer) (w : Writer) (left : ℕ) (floor : FloorState) (held : Option (List ℕ)) (got : Got) (bytes : List ℕ) (line : Line) → left ≡ 0 → IsBounded held → FinishesAt held got bytes → IsGivenLine got bytes line
    → StopsServing l TooManyLines w w left left floor floor (lines_from held ([] ∷ []))
finish_full l w left floor held got bytes line none within finishes is =
    subst (StopsServing l TooManyLines w w left left floor floor) (sym (last_is held got bytes line within finishes is)) (stops_full l w left floor line [] none)

pub finish_stop : (l : Legalizer) (ending : Ending) (w w' : Writer) (left : ℕ) (old new : FloorState) (held : Option (List ℕ)) (got : Got) (bytes : List ℕ) (line : Line) → left ≢ 0 → IsBounded held → FinishesAt held got bytes → IsGivenLine got bytes line
    → ActsOnLine l (Some ending) w w' old new line → StopsServing l ending w w' left (left - 1) old new (lines_from held ([] ∷ []))
finish_stop l ending w w' left old new held got bytes line some within finishes is e =
    subst (StopsServing l ending w w' left (left - 1) old new) (sym (last_is held got bytes line within finishes is)) (stops_line l ending w w' left old new line [] some e)

pub finish_done : (l : Legalizer) (w w' : Writer) (left : ℕ) (old new : FloorState) (held : Option (List ℕ)) (got : Got) (bytes : List ℕ) (line : Line) → left ≢ 0 → IsBounded held → FinishesAt held got bytes → IsGivenLine got bytes line
    → ActsOnLine l None w w' old new line → StopsServing l Done w w' left (left - 1) old new (lines_from held ([] ∷ []))
finish_done l w w' left old new held got bytes line some within finishes is e =
    subst (StopsServing l Done w w' left (left - 1) old new) (sym (last_is held got bytes line within finishes is)) (record {
      done = reported l None w w' old new line e ∷ [];
      comes = (new, w', e.answers, e.ends.0, (refl, refl));
      counts = omega (arith, some);
      stops = (refl, All-cons (λ (line : Line). is_bye line ≡ false) line [] e.ends.1 (All-nil (λ (line : Line). is_bye line ≡ false)));
    })

-- ---- the lines of a piece

-- The rest of a chunk.
abbrev pub rest_of : ℕ → List ℕ → List ℕ
rest_of at piece = take (length piece - at) (drop at piece)

rest_is : (at : ℕ) (piece : List ℕ) → rest_of at piece ≡ drop at piece
rest_is at piece = take_all (length piece - at) (drop at piece) (omega (arith, length-drop at piece))

pub piece_on : (l : Legalizer) (w v u : Writer) (p q r : ℕ) (old mid new : FloorState) (a b c : Option (List ℕ)) (piece : List ℕ) (at used : ℕ) (stop : Option Ending) → stop ≡ None
    → ContinuesServing l w v p q old mid a b piece (drop at piece)
    → MatchOption stop (ContinuesServing l v u q r mid new b c (rest_of at piece) (drop used (rest_of at piece))) (λ ending. (rest : List ℕ) → StopsServing l ending v u q r mid new (lines_from b (between_line_feeds (rest_of at piece ++ rest))))
    → ContinuesServing l w u p r old new a c piece (drop (at + used) piece)
piece_on l w v u p q r old mid new a b c piece at used (Some ending) is first second = cc
piece_on l w v u p q r old mid new a b c piece at used None is first second =
    subst (ContinuesServing l w u p r old new a c piece) (drop-drop used at piece)
    (goes_join l w v u p q r old mid new a b c piece (drop at piece) (drop used (drop at piece)) first
    (subst (λ (x : List ℕ). ContinuesServing l v u q r mid new b c x (drop used x)) (rest_is at piece) second))

pub piece_stop : (l : Legalizer) (w v u : Writer) (p q r : ℕ) (old mid new : FloorState) (a b c : Option (List ℕ)) (piece : List ℕ) (at used : ℕ) (stop : Option Ending) (ending : Ending) → stop ≡ Some ending
    → ContinuesServing l w v p q old mid a b piece (drop at piece)
    → MatchOption stop (ContinuesServing l v u q r mid new b c (rest_of at piece) (drop used (rest_of at piece))) (λ ending. (rest : List ℕ) → StopsServing l ending v u q r mid new (lines_from b (between_line_feeds (rest_of at piece ++ rest))))
    → (rest : List ℕ) → StopsServing l ending w u p r old new (lines_from a (between_line_feeds (piece ++ rest)))
piece_stop l w v u p q r old mid new a b c piece at used None ending is first second rest = cc
piece_stop l w v u p q r old mid new a b c piece at used (Some found) ending is first second rest =
    let same : found ≡ ending = cc in
    goes_stop l ending w v u p q r old mid new a b piece (drop at piece) rest first
    (subst (λ (x : List ℕ). StopsServing l ending v u q r mid new (lines_from b (between_line_feeds (x ++ rest)))) (rest_is at piece)
    (subst (λ (e : Ending). StopsServing l e v u q r mid new (lines_from b (between_line_feeds (rest_of at piece ++ rest)))) same (second rest)))

pub piece_done : (l : Legalizer) (w v : Writer) (p q : ℕ) (old mid : FloorState) (a b : Option (List ℕ)) (piece : List ℕ) (at : ℕ) → length piece ≤ at → ContinuesServing l w v p q old mid a b piece (drop at piece) → ContinuesServing l w v p q old mid a b piece []
piece_done l w v p q old mid a b piece at past first = subst (ContinuesServing l w v p q old mid a b piece) (drop_all at piece past) first
