-- The cells of a span that make room for one more, and the sites between which they can move while
-- the others stay.
use Rattle.std.specs.Prelude.{◌≡◌, ℕ, ◌+◌, ◌≤◌, List, All, drop, take, length}
use Rattle.std.specs.List.{between}
use Rattle.lf_repair_planner.specs.declared.packed_cell.PackedCell.{PackedCell}
use Rattle.lf_repair_planner.specs.declared.shifted_window.Window.{Window}
use Rattle.lf_repair_planner.specs.Packing.{AreSameCells, IsPackedWithin, total_width}

-- the least site at which all of the cells have ended
pub record IsFrontEnd (cells : List PackedCell) (site : ℕ) : Type 0 where
  pub ends : All (λ c. c.at + c.width ≤ site) cells
  pub least : (limit : ℕ) → All (λ c. c.at + c.width ≤ limit) cells → site ≤ limit

-- the greatest site, within the room, with all of the cells at it or to its right
pub record IsBackStart (room : ℕ) (cells : List PackedCell) (site : ℕ) : Type 0 where
  pub begins : All (λ c. site ≤ c.at) cells
  pub short : site ≤ room
  pub greatest : (limit : ℕ) → limit ≤ room → All (λ c. limit ≤ c.at) cells → limit ≤ site

-- the cells of the window have room between its sites with one more of this width, and all other
-- cells are on either side
pub record IsWindow (room : ℕ) (cells : List PackedCell) (width : ℕ) (window : Window) : Type 0 where
  pub order : window.first ≤ window.last
  pub within : window.last ≤ length cells
  pub front : IsFrontEnd (take window.first cells) window.start
  pub back : IsBackStart room (drop window.last cells) window.end
  pub fits : window.start + width + total_width (between window.first window.last cells) ≤ window.end

-- the cells of the window are packed between its sites, they do not move if they were packed
-- already, and all other cells do not move
pub record MovesWithin (window : Window) (old new : List PackedCell) : Type 0 where
  pub front : take window.first new ≡ take window.first old
  pub back : drop window.last new ≡ drop window.last old
  pub packed : IsPackedWithin window.start window.end (between window.first window.last new)
  pub same : AreSameCells (between window.first window.last old) (between window.first window.last new)
  pub kept : IsPackedWithin window.start window.end (between window.first window.last old)
      → between window.first window.last new ≡ between window.first window.last old
