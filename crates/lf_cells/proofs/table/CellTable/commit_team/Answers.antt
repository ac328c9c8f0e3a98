use Rattle.std.proofs.Common.{◌≡◌, ap, ◌∙◌}
use Rattle.lf_cells.specs.Records.{cells_in, components_in, labels_in}
use Rattle.lf_cells.proofs.Changes.{all_committed, labels_all_committed, components_all_committed}
use Rattle.lf_cells.proofs.table.CellTable.commit_team.Goals as goal

pub invariant_of-self : goal.invariant_of-self
invariant_of-self c =
    let p = c.self.inside.parts in
    let same : labels_in c.commit_cells.new.teams.items ≡ labels_in p.teams.items =
    ap labels_in c.commit_cells.ensures ∙ labels_all_committed p.teams.items c.args.team in
    let entries : components_in c.commit_cells.new.teams.items ≡ components_in p.teams.items =
    ap components_in c.commit_cells.ensures ∙ components_all_committed p.teams.items c.args.team in
    record {
      differ = c.self.invariant.differ;
      many = c.self.invariant.many;
      index = rw same c.self.invariant.index;
      rise = rw entries c.self.invariant.rise;
      ids = rw same c.self.invariant.ids;
    }

pub returns-then-team-len-clause-cells : goal.returns-then-team-len-clause-cells
returns-then-team-len-clause-cells c =
    let p = c.self.inside.parts in
    rw (← c.self.view_is) (ap (cells_in p.names) c.commit_cells.ensures ∙ all_committed p.names p.teams.items c.args.team)

pub returns-then-team-len-clause-components : goal.returns-then-team-len-clause-components
returns-then-team-len-clause-components c =
    let p = c.self.inside.parts in
    rw (← c.self.view_is) (ap components_in c.commit_cells.ensures ∙ components_all_committed p.teams.items c.args.team)
