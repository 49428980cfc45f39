use Rattle.command_words.specs.Requests.{request_as}
use Rattle.request_files.proofs.UnreadFacts.{files_unread}
use Rattle.request_files.proofs.files.read_files.Goals as goal

pub returns-in-Err-read_further-clause-case : goal.returns-in-Err-read_further-clause-case
returns-in-Err-read_further-clause-case g c =
    files_unread (request_as c.args.request.now) _ _ _ _ _ _ _ _ _ c.in-Ok.bytes c.in-Ok-read_file.bytes c.in-Ok-read_file-2.bytes c.in-Err-read_further.unread c.further_file.result c.further_file.ensures
    c.read_file.ensures.held c.read_file-2.ensures.held c.read_file-3.ensures.held
    c.in-Ok.ensures.case c.in-Ok-read_file.ensures.case c.in-Ok-read_file-2.ensures.case
    c.in-Err-read_further.ensures.case
