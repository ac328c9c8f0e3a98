use Rattle.lf_frame.proofs.all_checks.finding.Goals as goal

pub returns-in-NoSite : goal.returns-in-NoSite
returns-in-NoSite c = rw c.in-NoSite.is c.no_site.ensures

pub returns-in-NoMacro : goal.returns-in-NoMacro
returns-in-NoMacro c = rw c.in-NoMacro.is c.no_macro.ensures

pub returns-in-NoSize : goal.returns-in-NoSize
returns-in-NoSize c = rw c.in-NoSize.is c.no_size.ensures

pub returns-in-SecondName : goal.returns-in-SecondName
returns-in-SecondName c = rw c.in-SecondName.is c.second_name.ensures

pub returns-in-SecondRegion : goal.returns-in-SecondRegion
returns-in-SecondRegion c = rw c.in-SecondRegion.is c.second_region.ensures

pub returns-in-NoRegion : goal.returns-in-NoRegion
returns-in-NoRegion c = rw c.in-NoRegion.is c.no_region.ensures

pub returns-in-TeamName : goal.returns-in-TeamName
returns-in-TeamName c = rw c.in-TeamName.is c.team_name.ensures

pub returns-in-FencesOverlap : goal.returns-in-FencesOverlap
returns-in-FencesOverlap c = rw c.in-FencesOverlap.is c.fences_overlap.ensures

pub returns-in-TwoFences : goal.returns-in-TwoFences
returns-in-TwoFences c = rw c.in-TwoFences.is c.two_fences.ensures

pub two_fences-requires-clause-differ : goal.two_fences-requires-clause-differ
two_fences-requires-clause-differ c = c.requires.order c.in-TwoFences.is
