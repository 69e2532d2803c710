use Rattle.pp_device.proofs.Files.{page_in_file-blank_file, length-blank_file}
use Rattle.pp_device.proofs.laws.pages_stand_in_order.Goals as goal

pub returns-clause-length : goal.returns-clause-length
returns-clause-length c pages page_bytes long = length-blank_file page_bytes pages long

pub returns-clause-page : goal.returns-clause-page
returns-clause-page c pages page_bytes page long below = page_in_file-blank_file page_bytes pages page long below
