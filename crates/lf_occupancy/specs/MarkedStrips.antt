-- The entries of strips that are given together with their marks and boxes.
use Rattle.std.specs.Prelude.{List, [], slice_index_or}
use Rattle.lf_occupancy.specs.declared.marked_strips.MarkedStrip.{MarkedStrip}
use Rattle.lf_occupancy.specs.declared.marked_strips.MarkedStrips.{MarkedStrips}
use Rattle.lf_occupancy.specs.declared.strip_marks.Entry.{Entry}
use Rattle.lf_occupancy.specs.declared.strip_marks.Mark.{Mark}
use Rattle.lf_occupancy.specs.MarkLists.{IsMarked, MarksAreOf, StripView, marked_entries, marked_entry}
use Rattle.lf_occupancy.specs.Strips.{ShowAllBoxes, strip_views}
use Rattle.lf_occupancy.specs.Widened.{all_widened}

-- the entry of a mark in the strip
abbrev pub entry_in : MarkedStrip → Mark → Entry
entry_in strip m = marked_entry (slice_index_or strip.boxes.now strip.team []) strip.area m

-- the entries of marks in the strip
abbrev pub entries_in : MarkedStrip → List Mark → List Entry
entries_in strip marks = marked_entries (slice_index_or strip.boxes.now strip.team []) strip.area marks

-- the entries of all marks of the strip
abbrev pub strip_entries : MarkedStrip → List Entry
strip_entries strip = entries_in strip strip.mark_list.now.marks.items

-- each of the marks is that of its entry in the strip
abbrev pub AreMarksIn : MarkedStrip → List Mark → Type 0
AreMarksIn strip marks = MarksAreOf (slice_index_or strip.boxes.now strip.team []) strip.area marks

-- the marks of the strip are exactly those of its team's boxes
abbrev pub MarksItsBoxes : MarkedStrip → Type 0
MarksItsBoxes strip = IsMarked (slice_index_or strip.boxes.now strip.team []) strip.area strip.mark_list.now

-- the marks of each strip are exactly those of its team's boxes
abbrev pub MarkTheirBoxes : MarkedStrips → Type 0
MarkTheirBoxes marked = ShowAllBoxes (all_widened marked.strips.now) marked.boxes.now marked.mark_lists.now

-- the entries of all strips
abbrev pub views_in : MarkedStrips → List StripView
views_in marked = strip_views (all_widened marked.strips.now) marked.boxes.now marked.mark_lists.now
