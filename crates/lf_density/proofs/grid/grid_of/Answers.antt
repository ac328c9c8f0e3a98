use Rattle.lf_density.proofs.grid.grid_of.Goals as goal

pub returns-then-is_few-clause-small : goal.returns-then-is_few-clause-small
returns-then-is_few-clause-small c = record {
  positive = c.grid_over-grid.ensures.positive;
  short = c.grid_over-grid.ensures.short;
  few_columns = c.is_few.ensures.few_columns c.if-is_few.true;
  few_rows = c.is_few.ensures.few_rows c.if-is_few.true;
  few = c.is_few.ensures.few c.if-is_few.true;
}
