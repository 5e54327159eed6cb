-- What the service answers.
use Rattle.std.specs.Prelude.{ℕ, Bool, true, false, ◌||◌, List, [], ◌∷◌, codes}
use Rattle.std.specs.Str.{bytes_eq}
use Rattle.http.specs.declared.request.Request.{Request}
use Rattle.http.specs.Request.{head_of}
use Rattle.http_uri.specs.Uri.{uri_path}
use Rattle.http_server.specs.declared.response.Response.{Response}
use Rattle.http_server.specs.Response.{IsResponse}

-- the path of the page
abbrev pub metrics_path : List ℕ
metrics_path = codes "/metrics"

-- the method reads
abbrev pub is_read : List ℕ → Bool
is_read method = bytes_eq method (codes "GET") || bytes_eq method (codes "HEAD")

-- each answer closes the connection
abbrev pub close_field : List ℕ × List ℕ
close_field = (codes "connection", codes "close")

-- the page, which a client that asks only for its head gets without a body
abbrev pub IsPage : List ℕ → Response → Type 0
IsPage page = IsResponse 200 (close_field ∷ (codes "content-type", codes "text/plain; version=0.0.4; charset=utf-8") ∷ []) page

-- another path
abbrev pub IsNoPage : Response → Type 0
IsNoPage = IsResponse 404 (close_field ∷ (codes "content-type", codes "text/plain; charset=utf-8") ∷ []) (codes "The metrics are at /metrics\n")

-- another method
abbrev pub IsNoMethod : Response → Type 0
IsNoMethod = IsResponse 405 (close_field ∷ (codes "allow", codes "GET, HEAD") ∷ []) []

abbrev pub AnswersMethod : List ℕ → Bool → Response → Type 0
AnswersMethod page true response = IsPage page response
AnswersMethod page false response = IsNoMethod response

abbrev pub AnswersPath : List ℕ → Bool → List ℕ → Response → Type 0
AnswersPath page true method response = AnswersMethod page (is_read method) response
AnswersPath page false method response = IsNoPage response

-- the response to a request, where this is the page
abbrev pub IsAnswer : List ℕ → Request (List ℕ) → Response → Type 0
IsAnswer page request response =
    AnswersPath page (bytes_eq (uri_path (head_of request).uri) metrics_path) (head_of request).method response
