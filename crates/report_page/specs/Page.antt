-- The page.
use Rattle.std.specs.Prelude.{ℕ, List, [], ◌++◌, codes}
use Rattle.auditor.specs.Report.{AuditReport}
use Rattle.page_markup.specs.Elements.{attribute, element, void_element, html_document}
use Rattle.page_markup.specs.Escaping.{escaped}
use Rattle.page_markup.specs.declared.names.Tag.TheVariants as tag
use Rattle.page_markup.specs.declared.names.VoidTag.TheVariants as void
use Rattle.page_markup.specs.declared.names.AttributeName.TheVariants as attribute_name
use Rattle.report_page.specs.declared.input.Input.{Input}
use Rattle.report_page.specs.declared.words.TheConstants.{TITLE, STYLE, VIEWPORT}
use Rattle.report_page.specs.Sections.{verdict_section, audited_section, machines_section, findings_section}
use Rattle.report_page.specs.Sections.{gaps_section, rules_section, picture_section, entries_section, report_section}

-- how the text is coded
abbrev pub charset_meta : List ℕ
charset_meta = void_element void.Meta (attribute attribute_name.Charset (codes "utf-8"))

-- that the width is the screen's
abbrev pub viewport_meta : List ℕ
viewport_meta =
    void_element void.Meta
    (attribute attribute_name.Name (codes "viewport") ++ attribute attribute_name.Content VIEWPORT.now)

-- the head: how the text is coded, that the width is the screen's, the title and the style
abbrev pub page_head : List ℕ
page_head =
    element tag.Head []
    (charset_meta ++ viewport_meta ++ element tag.Title [] (escaped TITLE.now)
    ++ element tag.Style [] (escaped STYLE.now))

-- what the report comes to, what was audited, and the machines
abbrev pub first_sections : AuditReport → List Input → List ℕ
first_sections report inputs =
    verdict_section report ++ audited_section report inputs ++ machines_section report

-- what was found
abbrev pub found_sections : AuditReport → List ℕ
found_sections report = findings_section report ++ gaps_section report ++ rules_section report

-- what it was found in: the picture, the entries, and the report
abbrev pub last_sections : AuditReport → List ℕ
last_sections report = picture_section report ++ entries_section report ++ report_section report

-- what is in the body: the title, and all sections
abbrev pub page_inner : AuditReport → List Input → List ℕ
page_inner report inputs =
    element tag.H1 [] (escaped TITLE.now) ++ first_sections report inputs ++ found_sections report
    ++ last_sections report

-- the body
abbrev pub page_body : AuditReport → List Input → List ℕ
page_body report inputs = element tag.Body [] (page_inner report inputs)

-- the page that shows a report on these inputs
abbrev pub page_text : AuditReport → List Input → List ℕ
page_text report inputs =
    html_document (attribute attribute_name.Lang (codes "en")) (page_head ++ page_body report inputs)
