use Rattle.lf_repair_team.proofs.repair_input.mark_cell.Goals as goal

pub returns : goal.returns
returns g c = record {
  mark = c.is_cell_legal.result;
  more = c.in_ok-push.ensures.items;
  reported = c.is_cell_legal.ensures.reported;
  legal = c.is_cell_legal.ensures.legal;
}
