-- `listing::put_commit` meets its contract: for each kind, the text that is put is the record of such a commit. Assumes nothing.
use Rattle.spelling.specs.Text.{text}
use Rattle.listing.proofs.Laws.{put_same, access_text}
use Rattle.listing.proofs.put_commit.Goals as goal

pub returns-in-Load : goal.returns-in-Load
returns-in-Load c = rw c.in-Load.is (put_same (access_text _ _ _ _ (text "load") _) c.put_access.ensures)

pub returns-in-Store : goal.returns-in-Store
returns-in-Store c = rw c.in-Store.is (put_same (access_text _ _ _ _ (text "store") _) c.put_access-in-Store.ensures)
