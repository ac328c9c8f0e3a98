-- The contents of a document without its text.
use Rattle.lf_def.specs.declared.document.DefDoc.{DefDoc}
use Rattle.lf_def.specs.Document.{Document}

abbrev pub contents : DefDoc → Document
contents d = record {
  header = d.header;
  rows = d.rows;
  regions = d.regions;
  groups = d.groups;
  components = d.components;
  blockages = d.blockages;
}
