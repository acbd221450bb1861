mod FilesServed
