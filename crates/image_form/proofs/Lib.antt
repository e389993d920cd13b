-- Which numbers are forms, and how long a form's parts can be.
pub mod Forms
