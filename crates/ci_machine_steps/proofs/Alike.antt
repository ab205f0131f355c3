-- A pipeline is shown alike where what is shown of its jobs is.
use Rattle.std.specs.Prelude.{◌≡◌, List, map, codes}
use Rattle.serde_json.specs.Data.{Data, array, object, member, no_members, string, number, unsigned}
use Rattle.serde_json.specs.View.{items_of}
use Rattle.serde_json.specs.Written.{compact_text}
use Rattle.ci_machine.specs.Prelude.{Part}
use Rattle.ci_machine_steps.specs.Prelude.{Facts, Row, statuses, status_text, pipeline_status, Pipeline, Job, Claim, Json, Reply, source_text, jobs_data, fine, pipeline_shown}

-- the reply with what is said of its jobs, their parts, facts and rows
abbrev shown_by : Pipeline → List Data → List Part → List Facts → List Row → Reply
shown_by p shown parts facts rows =
    fine (Json (compact_text (object (member (codes "id") (number (unsigned p.id))
    (member (codes "jobs") (array (items_of shown))
    (member (codes "ref") (string p.git_ref)
    (member (codes "source") (string (source_text p.source))
    (member (codes "status") (string (status_text (pipeline_status parts facts (statuses rows)))) no_members))))))))

pub shown_alike : (p : Pipeline) (hs gs : List Claim) (js ks : List Job) (facts fresh : List Facts) (rows : List Row) → jobs_data hs p.project js rows ≡ jobs_data gs p.project ks rows
    → map (λ j. j.options.part) js ≡ map (λ j. j.options.part) ks → facts ≡ fresh → (pipeline_shown p hs js facts rows).0 ≡ (pipeline_shown p gs ks fresh rows).0
shown_alike p hs gs js ks facts fresh rows said parts same = λ i. shown_by p (said i) (parts i) (same i) rows
